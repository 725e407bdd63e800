-- `all_spaces` meets its contract: each byte is a space.
use Rattle.std.proofs.Common.{◌∙◌, rules, tests}
use Rattle.std.proofs.lemmas.Iterator.{YieldsList-from_slice}
use Rattle.std.proofs.lemmas.Iterator.Search.{all_from_yields_List}
use Rattle.ascii.specs.Text.{space}
use Rattle.ascii.proofs.Library.{spaces_all}
use Rattle.ascii.proofs.all_spaces.Goals as goal

pub returns : goal.returns
returns c =
    all_from_yields_List space _ _ _ c.all.ensures.ran (YieldsList-from_slice c.args.s.now (cc))
    (λ x b q k. search (rules, tests)) ∙ spaces_all c.args.s.now
