-- A test of every number of a range, proved by computing it at each of them.
-- Assumes nothing.
use mathlib.Core.Path.{◌≡◌, subst, sym, ◌∙◌}
use mathlib.Core.Bool.{Bool, true, ◌&&◌}
use mathlib.Core.List.{List, [], ◌∷◌}
use Prim.Native.Nat.{ℕ, zero, suc, ◌+◌, ◌<◌}
use native.Mathlib.Nat.{add-zero, add-suc, suc-add, le_of_suc-le-suc, not-suc-le-zero}
use lib.ListN.{length, get_or}
use Rattle.ascii.proofs.Cases.{both}

-- the test f passes at each entry of the list, whose places are counted from i
abbrev pub every : (ℕ → ℕ → Bool) → ℕ → List ℕ → Bool
every f i [] = true
every f i (x ∷ xs) = f i x && every f (suc i) xs

pub every_at : (f : ℕ → ℕ → Bool) (xs : List ℕ) (i : ℕ) → every f i xs ≡ true → (k : ℕ) → k < length xs → f (i + k) (get_or xs k 0) ≡ true
every_at f [] i t k h = absurd (not-suc-le-zero h)
every_at f (x ∷ xs) i t zero h = subst (λ (m : ℕ). f m x ≡ true) (sym (add-zero i)) (both (f i x) (every f (suc i) xs) t).0
every_at f (x ∷ xs) i t (suc k) h =
    subst (λ (m : ℕ). f m (get_or xs k 0) ≡ true) (suc-add i k ∙ sym (add-suc i k))
    (every_at f xs (suc i) (both (f i x) (every f (suc i) xs) t).1 k (le_of_suc-le-suc h))
