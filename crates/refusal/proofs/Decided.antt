-- The number and the place of a refusal decide its case, so that a contract that gives the outcome gives the answer.
-- Assumes nothing.
use Rattle.std.specs.Prelude.{Result, Err, Ok}
use mathlib.Core.Path.{◌≡◌, refl, sym, ◌∙◌, ap}
use Rattle.refusal.specs.declared.Refusal.{Refusal}
use Rattle.refusal.specs.declared.Refusal.TheVariants as R
use Rattle.refusal.specs.Refusal.{Outcome, accepted, refused, number_of, place_of, outcome_of, cause_of}

-- the number and the place of a cause tell it
pub cause_back : (r : Refusal) → cause_of (number_of r) (place_of r) ≡ r
cause_back R.BadLength = refl
cause_back R.MissingEnd = refl
cause_back (R.RepeatedName k) = refl
cause_back (R.MissingName n) = refl
cause_back (R.UnreadableValue k) = refl
cause_back (R.InvalidValue k) = refl
cause_back (R.AboveLimit k) = refl
cause_back (R.BadForm n) = refl
cause_back R.RowSizeMismatch = refl
cause_back R.Mismatch = refl
cause_back R.NoColumn = refl
cause_back (R.NoSuchRow r) = refl
cause_back (R.ArrayOutsideHeap c) = refl
cause_back (R.ShortList n) = refl
cause_back R.Unsuitable = refl
cause_back (R.InvalidScaling n) = refl
cause_back (R.InvalidNull n) = refl
cause_back R.BufferMismatch = refl

-- the check that an outcome is
abbrev pub check_of : Outcome → Result Unit Refusal
check_of accepted = Ok tt
check_of (refused n p) = Err (cause_of n p)

pub check_back : (c : Result Unit Refusal) → check_of (outcome_of c) ≡ c
check_back (Ok tt) = refl
check_back (Err r) = ap Err (cause_back r)

pub outcome_decides : (a b : Result Unit Refusal) → outcome_of a ≡ outcome_of b → a ≡ b
outcome_decides a b e = sym (check_back a) ∙ ap check_of e ∙ check_back b
