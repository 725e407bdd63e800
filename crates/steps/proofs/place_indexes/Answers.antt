-- `place_indexes` meets its contract: only a line that begins as a choice, and whose parts are then all numbers, has
-- indexes.
use Rattle.std.proofs.Common.{◌≡◌, true, false, sym, ◌∙◌}
use Rattle.ascii.specs.Text.{bytes}
use Rattle.steps.specs.Line.{begins, in_places}
use Rattle.ascii.proofs.Library.{same_pointwise}
use Rattle.steps.proofs.Says.{indexes_choose, indexes_other}
use Rattle.steps.proofs.Listing.{indexes_bad}
use Rattle.steps.proofs.place_indexes.Goals as goal

pub returns-then-all_numbers : goal.returns-then-all_numbers
unfolding bytes
returns-then-all_numbers c =
    let h = c.in-Some.ensures.cases in
    let choice : begins "choose " c.args.line.now ≡ true = sym (same_pointwise _ _) ∙ h.0 in
    rw (indexes_choose c.args.line.now choice, ← h.1) c.place_numbers.ensures

pub returns-else-all_numbers : goal.returns-else-all_numbers
unfolding bytes in_places
returns-else-all_numbers c =
    let h = c.in-Some.ensures.cases in
    let choice : begins "choose " c.args.line.now ≡ true = sym (same_pointwise _ _) ∙ h.0 in
    rw (indexes_choose c.args.line.now choice, ← h.1, indexes_bad _ (sym c.if-all_numbers.ensures))

pub returns-in_default : goal.returns-in_default
unfolding bytes in_places
returns-in_default c =
    let other : begins "choose " c.args.line.now ≡ false = sym (same_pointwise _ _) ∙ c.in_default.ensures.cases in
    rw (indexes_other c.args.line.now other)
