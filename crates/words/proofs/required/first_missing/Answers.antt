-- `first_missing` meets its contract: the first required name of which the index has no record.
use Rattle.std.proofs.Common.{◌∙◌, ap, rules, tests}
use Rattle.std.specs.List.{find}
use Rattle.std.proofs.lemmas.Iterator.{YieldsList-from_slice}
use Rattle.std.proofs.lemmas.Iterator.Search.{find_from_yields_List}
use Rattle.words.specs.Words.{missing, first_missing}
use Rattle.words.proofs.Missing.{copied_value}
use Rattle.words.proofs.required.first_missing.Goals as goal

pub returns : goal.returns
unfolding first_missing
returns c =
    let h = c.args.header.now in
    let names = c.iter.result.rest.now in
    let e = find_from_yields_List (missing h) _ _ c.find.result c.find.ensures.ran (YieldsList-from_slice names cc)
    (λ x b q k. search (rules, tests)) in
    c.copied.ensures ∙ copied_value c.find.result ∙ e ∙ ap (find (missing h)) c.iter.ensures.rest
