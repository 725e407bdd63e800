-- How far the count of bytes at the front that pass a test goes: for any test.
-- Assumes nothing.
use mathlib.Core.Path.{◌≡◌, ap}
use mathlib.Core.List.{List, [], ◌∷◌, ◌++◌}
use mathlib.Core.Bool.{Bool, true}
use Prim.Native.Nat.{ℕ, zero, suc, ◌≤◌, ◌<◌}
use native.Mathlib.Nat.{le_of_suc-le-suc, not-suc-le-zero}
use native.Mathlib.Omega.{arith}
use lib.ListN.{length, get_or}
use Rattle.ascii.specs.Text.{front}
use Rattle.ascii.proofs.Cases.{by_test, either}

module _ (p : ℕ → Bool) where
  pub front_le : (s : List ℕ) → front p s ≤ length s
  unfolding front
  front_le [] = omega arith
  front_le (b ∷ bs) = by_test (λ (n : ℕ). n ≤ suc (length bs)) (p b) (λ e. omega (arith, front_le bs)) (λ e. omega arith)

  -- each of the bytes counted passes
  pub front_passes : (s : List ℕ) (i : ℕ) → i < front p s → p (get_or s i 0) ≡ true
  unfolding front
  front_passes [] i h = absurd (not-suc-le-zero h)
  front_passes (b ∷ bs) zero h = either (p b) (λ e. e) (λ e. absurd (not-suc-le-zero (rw e at h)))
  front_passes (b ∷ bs) (suc i) h = either (p b) (λ e. front_passes bs i (le_of_suc-le-suc (rw e at h))) (λ e. absurd (not-suc-le-zero (rw e at h)))

  -- bytes that all pass, in front of others
  pub front_append : (w t : List ℕ) → front p w ≡ length w → front p t ≡ 0 → front p (w ++ t) ≡ length w
  unfolding front
  front_append [] t d o = o
  front_append (x ∷ w) t d o =
      either (p x)
      (λ e. rw e (ap suc (front_append w t (let y : suc (front p w) ≡ suc (length w) = rw e at d in omega arith) o)))
      (λ e. let y : zero ≡ suc (length w) = rw e at d in absurd (omega arith))

  -- these may pass too
  pub front_more : (w t : List ℕ) → front p w ≡ length w → length w ≤ front p (w ++ t)
  unfolding front
  front_more [] t d = omega arith
  front_more (x ∷ w) t d =
      either (p x)
      (λ e. rw e (let y : suc (front p w) ≡ suc (length w) = rw e at d in omega (arith, front_more w t (omega arith))))
      (λ e. let y : zero ≡ suc (length w) = rw e at d in absurd (omega arith))
