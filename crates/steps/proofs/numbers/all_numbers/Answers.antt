-- `all_numbers` meets its contract: the chain asks it of each part.
use Rattle.std.proofs.Common.{rules, ℕ, ap, ◌∙◌, List}
use borrow.Author.Tests.{tests}
use Rattle.std.specs.Prelude.{nat_eq, is_some}
use Rattle.std.specs.List.{list_all}
use Rattle.std.proofs.lemmas.Iterator.Search.{all_from_yields_List}
use Rattle.std.proofs.lemmas.Iterator.Splits.{YieldsList-from_slice_split}
use Rattle.ascii.specs.Number.{number}
use Rattle.steps.proofs.Lines.{parts_split}
use Rattle.steps.proofs.Listing.{all_parts}
use Rattle.steps.proofs.numbers.all_numbers.Goals as goal

pub returns : goal.returns
returns c =
    let s = c.args.text.now in
    let e = c.split.ensures in
    all_from_yields_List (λ (p : List ℕ). is_some (number p)) _ _ c.all.result c.all.ensures.ran
    (YieldsList-from_slice_split _ (λ (b : ℕ). nat_eq b 32) s e.rest e.done e.closure (λ x b q k. search (rules, tests)))
    (λ x b q k. search (rules, tests))
    ∙ ap (list_all (λ (p : List ℕ). is_some (number p))) (parts_split s)
    ∙ all_parts _
