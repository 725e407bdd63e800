-- `place_numbers` meets its contract: each number goes to its place, and no part is met that is none.
use Rattle.std.proofs.Common.{rules, ◌≡◌, sym, ap, ◌∙◌}
use borrow.Author.Tests.{tests}
use Rattle.std.specs.Prelude.{nat_eq}
use Rattle.std.proofs.lemmas.Fn.{always_returns_same}
use Rattle.steps.specs.Numbers.{numbers}
use Rattle.steps.specs.Line.{in_places, choose_by, indexes_of}
use Rattle.steps.proofs.Lines.{left_next, parts_left}
use Rattle.steps.proofs.Listing.{placed, not_placed}
use Rattle.steps.proofs.numbers.place_numbers.Goals as goal

pub loop-part-preserved-in-Some-parse_number : goal.loop-part-preserved-in-Some-parse_number
loop-part-preserved-in-Some-parse_number c =
    let l = c.loop-part in
    let given = c.in-Some.ensures.steps in
    let first = (given.2 (λ b. nat_eq b 32) (always_returns_same _ (λ a r. r ≡ nat_eq a.0.now 32) _ (λ a r q k. search (rules, tests)))).1 in
    let next = left_next l.part-iterator c.next.new.self c.in-Some.part.now given.0 given.1 first in
    let kept = placed c.in-Some.part.now (parts_left c.next.new.self) l.list _ (sym c.in-Some-parse_number.ensures) (rw next at l.invariant.0) in (
      kept.0,
      rw c.place_number.ensures (sym kept.1 ∙ sym (ap (λ ps. in_places l.list (indexes_of (choose_by (numbers ps)))) next) ∙ l.invariant.1),
    )

pub loop-part-preserved : goal.loop-part-preserved
loop-part-preserved c =
    let l = c.loop-part in
    let given = c.in-Some.ensures.steps in
    let first = (given.2 (λ b. nat_eq b 32) (always_returns_same _ (λ a r. r ≡ nat_eq a.0.now 32) _ (λ a r q k. search (rules, tests)))).1 in
    let next = left_next l.part-iterator c.next.new.self c.in-Some.part.now given.0 given.1 first in
    absurd (not_placed c.in-Some.part.now (parts_left c.next.new.self) (sym c.in_default.ensures) (rw next at l.invariant.0))

pub returns : goal.returns
unfolding numbers in_places
returns c =
    let l = c.loop-part in
    rw c.in-None.ensures.steps.0 at l.invariant.1
