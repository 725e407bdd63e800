-- Spaces: all of a list, the front of it, and its end.
-- Assumes nothing.
use mathlib.Core.Path.{◌≡◌, refl}
use mathlib.Core.List.{List, [], ◌∷◌}
use mathlib.Core.Bool.{true, false}
use Prim.Native.Nat.{ℕ, zero, suc, ◌≤◌, ◌<◌}
use native.Mathlib.Nat.{le_of_suc-le-suc, not-suc-le-zero}
use native.Mathlib.Omega.{arith}
use lib.ListN.{length, drop, get_or, replicate, take}
use lib.Dec.{eqb, eqb-zero-suc, eqb-suc-suc}
use Rattle.ascii.specs.Text.{front, space, spaces, trim, same}
use Rattle.ascii.proofs.Cases.{either}

-- a list has only spaces where they are as many as its bytes
pub spaces_count : (s : List ℕ) → spaces s ≡ eqb (front space s) (length s)
unfolding spaces front
spaces_count [] = refl
spaces_count (b ∷ bs) =
    either (space b) (λ e. rw (e, eqb-suc-suc (front space bs) (length bs)) (spaces_count bs)) (λ e. rw (e, eqb-zero-suc (length bs)))

-- so are the spaces that END asks after its letters
pub spaces_same : (s : List ℕ) → same s (replicate (length s) 32) ≡ spaces s
unfolding spaces same
spaces_same [] = refl
spaces_same (b ∷ bs) = rw (spaces_same bs)

pub trimmed_none : (s : List ℕ) → spaces s ≡ true → length (trim s) ≡ 0
unfolding trim
trimmed_none [] t = refl
trimmed_none (b ∷ bs) t = rw t

-- another byte among them
other : (s : List ℕ) (i : ℕ) → i < length s → space (get_or s i 0) ≡ false → spaces s ≡ false
unfolding spaces
other [] i h e = absurd (not-suc-le-zero h)
other (b ∷ bs) zero h e = rw e
other (b ∷ bs) (suc i) h e = either (space b) (λ q. rw (q, other bs i (le_of_suc-le-suc h) e)) (λ q. rw q)

pub trimmed_at : (s : List ℕ) (i : ℕ) → i < length s → space (get_or s i 0) ≡ false → spaces (drop (suc i) s) ≡ true → length (trim s) ≡ suc i
unfolding trim
trimmed_at [] i h e t = absurd (not-suc-le-zero h)
trimmed_at (b ∷ bs) zero h e t = rw (other (b ∷ bs) zero h e, trimmed_none bs t)
trimmed_at (b ∷ bs) (suc i) h e t = rw (other (b ∷ bs) (suc i) h e, trimmed_at bs i (le_of_suc-le-suc h) e t)

pub trimmed_le : (s : List ℕ) → length (trim s) ≤ length s
unfolding trim
trimmed_le [] = omega arith
trimmed_le (b ∷ bs) = either (spaces (b ∷ bs)) (λ t. rw t (omega arith)) (λ t. rw t (omega (arith, trimmed_le bs)))

-- the front part that is left
pub trim_take : (s : List ℕ) → take (length (trim s)) s ≡ trim s
unfolding trim
trim_take [] = refl
trim_take (b ∷ bs) = either (spaces (b ∷ bs)) (λ t. rw t) (λ t. rw (t, trim_take bs))
