-- The first refusal of several checks.
-- Assumes nothing.
use mathlib.Core.Path.{◌≡◌, refl, ◌∙◌, ap}
use mathlib.Core.List.{List, [], ◌∷◌, ◌++◌}
use Rattle.refusal.specs.Refusal.{Outcome, accepted, refused, before}
use Rattle.bintable.specs.Checks.{first_refusal}

pub before_accepted : (o : Outcome) → before o accepted ≡ o
before_accepted accepted = refl
before_accepted (refused n p) = refl

pub before_assoc : (a b c : Outcome) → before (before a b) c ≡ before a (before b c)
before_assoc accepted b c = refl
before_assoc (refused n p) b c = refl

pub first_append : (xs ys : List Outcome) → first_refusal (xs ++ ys) ≡ before (first_refusal xs) (first_refusal ys)
unfolding first_refusal
first_append [] ys = refl
first_append (x ∷ xs) ys = rw (before_assoc x (first_refusal xs) (first_refusal ys), first_append xs ys)

pub first_snoc : (xs : List Outcome) (o : Outcome) → first_refusal (xs ++ (o ∷ [])) ≡ before (first_refusal xs) o
unfolding first_refusal
first_snoc xs o = first_append xs (o ∷ []) ∙ ap (before (first_refusal xs)) (before_accepted o)
