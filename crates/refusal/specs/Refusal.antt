-- The refusals (FORMAT.md, section 10): what a check comes to, and the number and the place of each cause.
-- Assumes nothing.
use Rattle.std.specs.Prelude.{ℕ, cond, eqb, Result, Err, Ok}
use Rattle.refusal.specs.declared.Refusal.{Refusal}
use Rattle.refusal.specs.declared.Refusal.TheVariants as R

-- what a check, or all of them, come to: nothing to refuse, or a refusal's number and place
pub data Outcome : Type 0 where
  accepted : Outcome
  refused : ℕ → ℕ → Outcome

-- one check before another: the first refusal decides
abbrev pub before : Outcome → Outcome → Outcome
before accepted o = o
before (refused number place) o = refused number place

abbrev pub number_of : Refusal → ℕ
number_of R.BadLength = 1
number_of R.MissingEnd = 2
number_of (R.RepeatedName k) = 3
number_of (R.MissingName n) = 4
number_of (R.UnreadableValue k) = 5
number_of (R.InvalidValue k) = 6
number_of (R.AboveLimit k) = 7
number_of (R.BadForm n) = 8
number_of R.RowSizeMismatch = 9
number_of R.Mismatch = 10
number_of R.NoColumn = 11
number_of (R.NoSuchRow r) = 12
number_of (R.ArrayOutsideHeap c) = 13
number_of (R.ShortList n) = 14
number_of R.Unsuitable = 15
number_of (R.InvalidScaling n) = 16
number_of (R.InvalidNull n) = 17
number_of R.BufferMismatch = 22

abbrev pub place_of : Refusal → ℕ
place_of R.BadLength = 0
place_of R.MissingEnd = 0
place_of (R.RepeatedName k) = k
place_of (R.MissingName n) = n
place_of (R.UnreadableValue k) = k
place_of (R.InvalidValue k) = k
place_of (R.AboveLimit k) = k
place_of (R.BadForm n) = n
place_of R.RowSizeMismatch = 0
place_of R.Mismatch = 0
place_of R.NoColumn = 0
place_of (R.NoSuchRow r) = r
place_of (R.ArrayOutsideHeap c) = c
place_of (R.ShortList n) = n
place_of R.Unsuitable = 0
place_of (R.InvalidScaling n) = n
place_of (R.InvalidNull n) = n
place_of R.BufferMismatch = 0

-- the outcome that the code's answer is, whatever it returns where nothing is refused
abbrev pub outcome_of : {A : Type 0} → Result A Refusal → Outcome
outcome_of (Ok x) = accepted
outcome_of (Err r) = refused (number_of r) (place_of r)

-- the cause that a number and a place tell; 1 and every number of no refusal tell the first one
abbrev pub cause_of : ℕ → ℕ → Refusal
cause_of n p =
    cond (eqb n 2) R.MissingEnd
    (cond (eqb n 3) (R.RepeatedName p)
    (cond (eqb n 4) (R.MissingName p)
    (cond (eqb n 5) (R.UnreadableValue p)
    (cond (eqb n 6) (R.InvalidValue p)
    (cond (eqb n 7) (R.AboveLimit p)
    (cond (eqb n 8) (R.BadForm p)
    (cond (eqb n 9) R.RowSizeMismatch
    (cond (eqb n 10) R.Mismatch
    (cond (eqb n 11) R.NoColumn
    (cond (eqb n 12) (R.NoSuchRow p)
    (cond (eqb n 13) (R.ArrayOutsideHeap p)
    (cond (eqb n 14) (R.ShortList p)
    (cond (eqb n 15) R.Unsuitable
    (cond (eqb n 16) (R.InvalidScaling p)
    (cond (eqb n 17) (R.InvalidNull p)
    (cond (eqb n 22) R.BufferMismatch
    R.BadLength))))))))))))))))
