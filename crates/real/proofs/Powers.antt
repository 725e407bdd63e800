-- A power of ten as a difference, and the double nearest to a number with that power as one fraction.
-- Assumes nothing.
use Rattle.std.proofs.Common.{◌≡◌, ℕ, suc, ◌+◌, ◌*◌, ◌^◌, ◌<◌, Bool, true, false, ◌&&◌, cond, Some, None, refl, sym, ap, ◌∙◌, arith}
use Rattle.std.specs.Prelude.{ltb, leb, ℤ, pos, negsuc, neg_ℤ, ◌-ℤ◌, ◌+ℤ◌}
use Rattle.std.specs.Float.{binary64}
use Rattle.std.proofs.lemmas.Int.{ints}
use Rattle.std.proofs.lemmas.Nat.{pow-add}
use Rattle.std.proofs.lemmas.Bool.Decides.{nat_tests}
use native.Mathlib.Nat.{mul_assoc}
use lib.Ieee.Scale.{round_same}
use Rattle.ascii.proofs.Decimal.{ten_le}
use Rattle.card.specs.Value.{signed}
use Rattle.real.specs.Real.{nearest, limited}
use Rattle.real.specs.Written.{rounded, within}

ten_pos : (k : ℕ) → 0 < 10 ^ k
ten_pos k = ten_le {i = 0} k (omega arith)

test_up : (k d : ℕ) → leb k 22 ≡ (leb (k + d) (d + 22) && leb d (k + d + 22))
test_up k d = grind (arith, nat_tests)

test_down : (k u : ℕ) → ltb k 22 ≡ (leb u (u + suc k + 22) && leb (u + suc k) (u + 22))
test_down k u = grind (arith, nat_tests)

module _ (minus : Bool) (m : ℕ) where
  limited_up : (k d : ℕ) → limited minus m (pos k) ≡ cond (within m (k + d) d) (Some (rounded minus m (k + d) d)) None
  unfolding nearest
  limited_up k d =
      let e : m * 10 ^ k * 10 ^ d ≡ m * 10 ^ (k + d) * 1 = mul_assoc m (10 ^ k) (10 ^ d) ∙ ap (λ (p : ℕ). m * p) (sym (pow-add 10 k d)) ∙ omega arith in
      rw (← test_up k d, round_same binary64 (minus && ltb 0 m) (m * 10 ^ k) 1 (m * 10 ^ (k + d)) (10 ^ d) (omega arith) (ten_pos d) e)

  limited_down : (k u : ℕ) → limited minus m (negsuc k) ≡ cond (within m u (u + suc k)) (Some (rounded minus m u (u + suc k))) None
  unfolding nearest
  limited_down k u =
      let e : m * 10 ^ (u + suc k) ≡ m * 10 ^ u * 10 ^ suc k = ap (λ (p : ℕ). m * p) (pow-add 10 u (suc k)) ∙ sym (mul_assoc m (10 ^ u) (10 ^ suc k)) in
      rw (← test_down k u, round_same binary64 (minus && ltb 0 m) m (10 ^ suc k) (m * 10 ^ u) (10 ^ (u + suc k)) (ten_pos (suc k)) (ten_pos (u + suc k)) e)

  -- the power z is u less d
  pub limited_is : (z : ℤ) (u d : ℕ) → z +ℤ pos d ≡ pos u → limited minus m z ≡ cond (within m u d) (Some (rounded minus m u d)) None
  limited_is (pos k) u d h =
      let e : k + d ≡ u = omega (arith, ints) in
      rw (← e) (limited_up k d)
  limited_is (negsuc k) u d h =
      let e : u + suc k ≡ d = omega (arith, ints) in
      rw (← e) (limited_down k u)

-- the power of an exponent and of the places after a point, as a difference
pub power_is : (neg : Bool) (x places : ℕ) → signed neg x -ℤ pos places +ℤ pos (places + cond neg x 0) ≡ pos (cond neg 0 x)
power_is false x places = omega (arith, ints)
power_is true x places = omega (arith, ints)

pub places_is : (places : ℕ) → neg_ℤ (pos places) +ℤ pos (places + 0) ≡ pos 0
places_is places = omega (arith, ints)

pub nearest_is : (minus : Bool) (m : ℕ) → nearest minus m (pos 0) ≡ rounded minus m 0 0
unfolding nearest
nearest_is minus m = refl
