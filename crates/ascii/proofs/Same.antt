-- The test of two lists of bytes, and what it says.
-- Assumes nothing.
use mathlib.Core.Path.{◌≡◌, refl, sym, ◌∙◌, subst}
use mathlib.Core.List.{List, [], ◌∷◌, ◌++◌}
use mathlib.Core.Bool.{true, false, true≢false, false≢true}
use Prim.Native.Nat.{ℕ}
use lib.Dec.{eqb}
use borrow.Author.Tests.{eq-eqb, eqb-true}
use Rattle.ascii.specs.Text.{same}
use Rattle.ascii.proofs.Cases.{either, both}

pub same_true : (a b : List ℕ) → same a b ≡ true → a ≡ b
unfolding same
same_true [] [] e = refl
same_true [] (y ∷ ys) e = absurd (false≢true e)
same_true (x ∷ xs) [] e = absurd (false≢true e)
same_true (x ∷ xs) (y ∷ ys) e =
    let h = both (eqb x y) (same xs ys) e in
    rw (eqb-true x y h.0, same_true xs ys h.1)

pub same_refl : (a : List ℕ) → same a a ≡ true
unfolding same
same_refl [] = refl
same_refl (x ∷ xs) = rw (eq-eqb x x refl, same_refl xs)

pub same_false : (a b : List ℕ) → (a ≡ b → ⊥) → same a b ≡ false
same_false a b h = either (same a b) (λ t. absurd (h (same_true a b t))) (λ e. e)

pub same_not : (a b : List ℕ) → same a b ≡ false → a ≡ b → ⊥
same_not a b h e = true≢false (sym (subst (λ (l : List ℕ). same a l ≡ true) e (same_refl a)) ∙ h)

-- the same bytes in front of both
pub same_root : (root a b : List ℕ) → same (root ++ a) (root ++ b) ≡ same a b
unfolding same
same_root [] a b = refl
same_root (x ∷ root) a b = rw (eq-eqb x x refl) (same_root root a b)
