-- A weight of 100,000,000 or more is ten stars in both editions.
-- Assumes nothing.
use Prim.Native.Nat.{ℕ, ◌+◌, ◌*◌, ◌/◌, ◌^◌, ◌≤◌, ◌<◌}
use native.Mathlib.Omega.{arith}
use native.Mathlib.Nat.{le_of_mul-le-mul_right}
use mathlib.Core.Path.{◌≡◌}
use mathlib.Core.Bool.{Bool}
use mathlib.Core.List.{List}
use lib.ListN.{length, length-append}
use lib.Dec.{lit<}
use borrow.Author.Tests.{lt-leb}
use Rattle.ascii.specs.Number.{decimal_in}
use Rattle.weight.specs.declared.Edition.{Edition}
use Rattle.weight.specs.declared.Edition.TheVariants.{One, Two}
use Rattle.weight.specs.Weight.{decimals, rounded, last_digits, units_text, in_ten_places, stars}
use Rattle.weight.proofs.Rounded.{Near, rounded_near}
use Rattle.weight.proofs.Digits.{digits_least}

pub last_length : (ed : Edition) (units : ℕ) → length (last_digits (decimals ed) units) ≡ decimals ed
unfolding last_digits
last_length One units = omega arith
last_length Two units = omega arith

pub decimals_range : (ed : Edition) → (1 ≤ decimals ed) × (decimals ed ≤ 2)
decimals_range One = (omega arith, omega arith)
decimals_range Two = (omega arith, omega arith)

pub scaled_most : (ed : Edition) (n : ℕ) → n * 10 ^ decimals ed ≤ n * 100
scaled_most One n = omega arith
scaled_most Two n = omega arith

-- a text over ten places
pub long_stars : (text : List ℕ) → 10 < length text → in_ten_places text ≡ stars
long_stars text h = rw (lt-leb (length text) 10 h)

-- the text has nine digits before the point
long : (ed : Edition) (s : Bool) (q : ℕ) → 100000000 ≤ q / 10 ^ decimals ed → 10 < length (units_text ed s q)
unfolding units_text
long ed s q h =
    let n = q / 10 ^ decimals ed in
    let d : 8 < length (decimal_in 39 n) = digits_least 8 39 n h (lit< tt) in
    simp length-append (omega (arith, last_length ed q, decimals_range ed))

-- the units of a value of 100,000,000 or more
many : (ed : Edition) (a b q : ℕ) → 0 < b → 100000000 * b ≤ a → Near (a * 10 ^ decimals ed) b q
    → 100000000 ≤ q / 10 ^ decimals ed
many One a b q B l w =
    let m : 2000000000 * b ≤ (q * 2 + 1) * b = omega (arith, w.low) in
    let c : 2000000000 ≤ q * 2 + 1 = le_of_mul-le-mul_right m B in
    omega arith
many Two a b q B l w =
    let m : 20000000000 * b ≤ (q * 2 + 1) * b = omega (arith, w.low) in
    let c : 20000000000 ≤ q * 2 + 1 = le_of_mul-le-mul_right m B in
    omega arith

-- a value of 100,000,000 or more
pub too_long : (ed : Edition) (s : Bool) (a b : ℕ) → 0 < b → 100000000 * b ≤ a
    → in_ten_places (units_text ed s (rounded ed (a * 10 ^ decimals ed) b)) ≡ stars
too_long ed s a b B h =
    let p = a * 10 ^ decimals ed in
    let q = rounded ed p b in
    long_stars (units_text ed s q) (long ed s q (many ed a b q B h (rounded_near ed p b B)))
