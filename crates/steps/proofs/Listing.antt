-- The numbers that the parts of a line are, one part at a time: whether all are numbers, and each at its place of a list.
-- Assumes nothing.
use Rattle.std.specs.Prelude.{Option, Some, None, is_some, ◌&&◌}
use Rattle.std.specs.List.{list_all}
use mathlib.Core.Path.{◌≡◌, refl, sym, ap, ◌∙◌}
use mathlib.Core.Bool.{true, false, false≢true}
use mathlib.Core.List.{List, [], ◌∷◌}
use Prim.Native.Nat.{ℕ, ◌+◌, ◌-◌, ◌≤◌}
use native.Mathlib.Omega.{arith}
use lib.ListN.{length, take, drop, set}
use Rattle.ascii.specs.Number.{number}
use Rattle.steps.specs.Split.{before}
use Rattle.steps.specs.Numbers.{Numbers, all_of, not_all, with_first, numbers, are_numbers}
use Rattle.steps.specs.declared.Command.TheVariants as C
use Rattle.steps.specs.Line.{choose_by, command_of, indexes_of, in_places}
use Rattle.steps.proofs.Parts.{parts_from, parts_next}

all_at : (m : ℕ) (r : Numbers) → are_numbers (with_first (Some m) r) ≡ are_numbers r
all_at m (all_of ns) = refl
all_at m not_all = refl

all_with : (f : Option ℕ) (ps : List (List ℕ)) → list_all (λ (p : List ℕ). is_some (number p)) ps ≡ are_numbers (numbers ps)
    → (is_some f && list_all (λ (p : List ℕ). is_some (number p)) ps) ≡ are_numbers (with_first f (numbers ps))
all_with (Some m) ps e = e ∙ sym (all_at m (numbers ps))
all_with None ps e = refl

place_at : (xs : List ℕ) (m : ℕ) (r : Numbers) → are_numbers r ≡ true
    → in_places xs (indexes_of (choose_by (with_first (Some m) r))) ≡ in_places (set xs m m) (indexes_of (choose_by r))
unfolding in_places
place_at xs m (all_of ns) h = refl
place_at xs m not_all h = absurd (false≢true h)

-- at a place of the line, with the end of the part there
module _ (s : List ℕ) (at : ℕ) (h : at ≤ length s) (end : ℕ) (e : end ≡ at + before 32 (drop at s)) where
  next : numbers (parts_from s at) ≡ with_first (number (take (end - at) (drop at s))) (numbers (parts_from s (end + 1)))
  unfolding numbers
  next =
      let q : end - at ≡ before 32 (drop at s) = omega (arith, e) in
      rw (q, e) (ap numbers (parts_next s at h))

  pub all_next : (m : ℕ) → number (take (end - at) (drop at s)) ≡ Some m
      → are_numbers (numbers (parts_from s at)) ≡ are_numbers (numbers (parts_from s (end + 1)))
  all_next m f = rw (next, f) (all_at m (numbers (parts_from s (end + 1))))

  pub all_stop : number (take (end - at) (drop at s)) ≡ None → are_numbers (numbers (parts_from s at)) ≡ false
  all_stop f = rw (next, f)

  pub place_next : (xs : List ℕ) (m : ℕ) → number (take (end - at) (drop at s)) ≡ Some m
      → are_numbers (numbers (parts_from s at)) ≡ true
      → in_places xs (indexes_of (choose_by (numbers (parts_from s at))))
      ≡ in_places (set xs m m) (indexes_of (choose_by (numbers (parts_from s (end + 1)))))
  place_next xs m f p = rw (next, f) (place_at xs m (numbers (parts_from s (end + 1))) (rw (all_next m f) at p))

-- whether all parts are numbers, as the library's chain says it
pub all_parts : (ps : List (List ℕ)) → list_all (λ (p : List ℕ). is_some (number p)) ps ≡ are_numbers (numbers ps)
unfolding numbers
all_parts [] = refl
all_parts (p ∷ ps) = all_with (number p) ps (all_parts ps)

-- a part that is met is a number where all are, and goes to its place
pub placed : (p : List ℕ) (ps : List (List ℕ)) (xs : List ℕ) (m : ℕ) → number p ≡ Some m → are_numbers (numbers (p ∷ ps)) ≡ true
    → (are_numbers (numbers ps) ≡ true)
    × (in_places xs (indexes_of (choose_by (numbers (p ∷ ps)))) ≡ in_places (set xs m m) (indexes_of (choose_by (numbers ps))))
unfolding numbers
placed p ps xs m f h =
    let others : are_numbers (numbers ps) ≡ true = sym (all_at m (numbers ps)) ∙ rw f at h in
    (others, rw f (place_at xs m (numbers ps) others))

pub not_placed : (p : List ℕ) (ps : List (List ℕ)) → number p ≡ None → are_numbers (numbers (p ∷ ps)) ≡ true → ⊥
unfolding numbers
not_placed p ps f h = false≢true (rw f at h)

-- what a line that chooses says by whether its parts are all numbers
pub chosen_all : (r : Numbers) → are_numbers r ≡ true → command_of (choose_by r) ≡ Some C.Choose
chosen_all (all_of ns) e = refl
chosen_all not_all e = absurd (false≢true e)

-- with a part that is no number it chooses none
pub indexes_bad : (r : Numbers) → are_numbers r ≡ false → indexes_of (choose_by r) ≡ []
indexes_bad (all_of ns) e = cc
indexes_bad not_all e = refl
