-- The words of specs/Text beside those that the library's contracts have.
-- Assumes nothing.
use Rattle.std.proofs.Common.{◌≡◌, ℕ, zero, suc, ◌+◌, ◌≤◌, ◌<◌, List, [], ◌∷◌, Bool, true, ◌≢◌, length, drop, get_or, cond, refl, sym, ap, ◌∙◌, arith}
use Rattle.std.specs.List.{prefix_len, take_while, list_all}
use Rattle.std.specs.Cmp.Lexicographic.{pointwise}
use Rattle.std.proofs.lemmas.List.Folds.{length-prefix_len}
use lib.Dec.{eqb}
use borrow.Author.Tests.{eq-eqb, ne_eqb}
use Rattle.std.specs.Cmp.{nat_eq_equiv}
use Rattle.ascii.specs.Text.{front, space, spaces, same, trim}
use Rattle.ascii.proofs.Spaces.{trimmed_at, trimmed_none}

pub front_prefix : (p : ℕ → Bool) (s : List ℕ) → prefix_len p s ≡ front p s
unfolding front
front_prefix p [] = refl
front_prefix p (b ∷ bs) = rw (front_prefix p bs) (ap (λ (n : ℕ). cond (p b) n 0) (omega arith))

-- as many as `take_while` takes
pub front_taken : (p : ℕ → Bool) (s : List ℕ) → length (take_while p s) ≡ front p s
front_taken p s = length-prefix_len p s ∙ front_prefix p s

pub spaces_all : (s : List ℕ) → list_all space s ≡ spaces s
unfolding spaces
spaces_all [] = refl
spaces_all (b ∷ bs) = rw (spaces_all bs)

pub same_pointwise : (a b : List ℕ) → pointwise eqb a b ≡ same a b
unfolding same
same_pointwise [] [] = refl
same_pointwise [] (y ∷ ys) = refl
same_pointwise (x ∷ xs) [] = refl
same_pointwise (x ∷ xs) (y ∷ ys) = rw (same_pointwise xs ys)

pub same_swapped : (a b : List ℕ) → pointwise eqb b a ≡ same a b
unfolding same
same_swapped [] [] = refl
same_swapped [] (y ∷ ys) = refl
same_swapped (x ∷ xs) [] = refl
same_swapped (x ∷ xs) (y ∷ ys) = rw (nat_eq_equiv.symm y x, same_swapped xs ys)

-- spaces stand from a place on
spaces_from : (s : List ℕ) (n : ℕ) → ((k : ℕ) → n ≤ k → k < length s → get_or s k 0 ≡ 32) → spaces (drop n s) ≡ true
unfolding spaces
spaces_from [] zero h = refl
spaces_from [] (suc n) h = refl
spaces_from (b ∷ bs) zero h = rw (eq-eqb b 32 (h 0 (omega arith) (omega arith)), spaces_from bs zero (λ k p q. h (suc k) (omega arith) (omega arith)))
spaces_from (b ∷ bs) (suc n) h = spaces_from bs n (λ k p q. h (suc k) (omega arith) (omega arith))

pub trimmed_last : (s : List ℕ) (last : ℕ) → last < length s → get_or s last 0 ≢ 32
    → ((k : ℕ) → last + 1 ≤ k → k < length s → get_or s k 0 ≡ 32) → last + 1 ≡ length (trim s)
trimmed_last s last h other after =
    omega (arith, trimmed_at s last h (ne_eqb _ _ other) (spaces_from s (suc last) (λ k p q. after k (omega arith) q)))

pub trimmed_away : (s : List ℕ) → ((k : ℕ) → k < length s → get_or s k 0 ≡ 32) → 0 ≡ length (trim s)
trimmed_away s h = sym (trimmed_none s (spaces_from s 0 (λ k p q. h k q)))
