-- `find_field_by_ttype` meets its contract: the place of the first column that has the name.
use Rattle.std.proofs.Common.{◌∙◌, rules, tests}
use Rattle.std.proofs.lemmas.Iterator.{YieldsList-from_slice}
use Rattle.std.proofs.lemmas.Iterator.Search.{position_from_yields_List}
use Rattle.layout.specs.Layout.{columns_of}
use Rattle.layout.specs.Names.{has_name, find_name}
use Rattle.layout.proofs.First.{first_position}
use Rattle.layout.proofs.find_field_by_ttype.Goals as goal

pub returns : goal.returns
unfolding find_name
returns c =
    let test = has_name c.args.header.now c.args.name.now in
    position_from_yields_List test _ _ c.position.result c.position.ensures.ran (YieldsList-from_slice (columns_of c.args.layout) (cc))
    (λ x b q k. search (rules, tests))
    ∙ first_position test (columns_of c.args.layout)
