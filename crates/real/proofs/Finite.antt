-- No number that is read is a NaN or an infinity, or a zero with a minus.
-- Assumes nothing.
use Rattle.std.proofs.Common.{List, ◌++◌, length, Some, None, ◌≡◌, ℕ, zero, suc, ◌+◌, ◌-◌, ◌*◌, ◌/◌, ◌%◌, ◌^◌, ◌≤◌, ◌<◌, Bool, true, false, ◌&&◌, ◌||◌, cond, refl, arith}
use Rattle.std.specs.Prelude.{Option, leb, ltb, eqb, ℤ}
use Prim.Native.Nat.{compare}
use lib.Dec.{T}
use lib.Ieee.{minus, inf, fin, binary64, round, units, odd, low, prec, size, nearest, emax}
use lib.Ieee.Scale.{round_same}
use lib.Ieee.Order.{round_mono}
use lib.Ieee.Positive.{positive, between}
use lib.Count.{count_trailing_zeros}
use native.Mathlib.Nat.{mul-le-mul_left, mul-le-mul_right}
use borrow.Author.Tests.{ltb-true, leb-true, ne_eqb, eqb-true, eqb-false}
use mathlib.Core.Bool.{and-false, false≢true}
use Rattle.std.proofs.lemmas.Nat.{pow-add}
use Rattle.ascii.specs.Text.{decimal}
use Rattle.ascii.proofs.Cases.{either, both}
use Rattle.ascii.proofs.Decimal.{ten_le}
use Rattle.real.specs.Written.{Exponent, Number, fraction_digits, rounded, double, negative, up, down, within, bare, is_taken, proper}

-- ---- by the sign

one : (s : Bool) (m : ℕ) (e : ℤ) → T (positive (fin false m e)) → proper (fin s m e) ≡ true
one true zero e p = absurd p
one true (suc m) e p = rw (ne_eqb (suc m) 0 (λ q. omega arith))
one false m e p = refl

odd_proper : (d : ℕ) (s : Bool) (q k l : ℕ) → T (positive (odd d false q k l)) → proper (odd d s q k l) ≡ true
unfolding odd
odd_proper d s zero k l p = absurd p
odd_proper d s (suc q) k l p =
    let t = count_trailing_zeros d (suc q) in
    one s (suc q / 2 ^ t) (minus (k + t) l) p

units_proper : (s : Bool) (q k : ℕ) → T (positive (units binary64 false q k)) → proper (units binary64 s q k) ≡ true
unfolding units
units_proper s q k p =
    elim (ltb (q * 2 ^ k) (2 ^ (low binary64 + suc (emax binary64))))
    as (λ b. T (positive (cond b (odd (suc (prec binary64)) false q k (low binary64)) (inf false)))
    → proper (cond b (odd (suc (prec binary64)) s q k (low binary64)) (inf s)) ≡ true) [
      | true ↦ λ t. odd_proper (suc (prec binary64)) s q k (low binary64) t
      | false ↦ λ t. absurd t
    ] p

signed : (s : Bool) (a b : ℕ) → T (positive (round binary64 false a b)) → proper (round binary64 s a b) ≡ true
unfolding round
signed s a b p =
    let n = a * 2 ^ low binary64 in
    let k = size (n / b) - prec binary64 in
    let u = b * 2 ^ k in
    units_proper s (nearest (n / u) (compare (n % u * 2) u)) k p

-- ---- between the smallest number and the largest

smallest : T (positive (round binary64 false 1 (10 ^ 22)))
unfolding round
smallest = tt

largest : T (positive (round binary64 false (10 ^ 37) 1))
unfolding round
largest = tt

between_limits : (a b : ℕ) → 0 < b → b ≤ a * 10 ^ 22 → a ≤ 10 ^ 37 * b → T (positive (round binary64 false a b))
between_limits a b h l g =
    between (round binary64 false 1 (10 ^ 22)) (round binary64 false a b) (round binary64 false (10 ^ 37) 1) smallest largest
    (round_mono binary64 1 (10 ^ 22) a b (omega arith) h (omega arith))
    (round_mono binary64 a b (10 ^ 37) 1 h (omega arith) (omega arith))

-- ---- within the limits

pub zero_proper : (s : Bool) (u d : ℕ) → proper (rounded s 0 u d) ≡ true
unfolding round
zero_proper s u d =
    let h : 0 < 10 ^ d = ten_le {i = 0} d (omega arith) in
    rw (and-false s, round_same binary64 false (0 * 10 ^ u) (10 ^ d) 0 1 h (omega arith) (omega arith))

pub some_proper : (s : Bool) (m u d : ℕ) → 0 < m → m < 10 ^ 15 → u ≤ d + 22 → d ≤ u + 22 → proper (rounded s m u d) ≡ true
some_proper s m u d p h g l =
    let t : 0 < 10 ^ d = ten_le {i = 0} d (omega arith) in
    let a : 1 * 10 ^ u ≤ m * 10 ^ u = mul-le-mul_right (10 ^ u) (omega arith) in
    let low : 10 ^ d ≤ m * 10 ^ u * 10 ^ 22 = omega (arith, ten_le {i = d} (u + 22) l, pow-add 10 u 22, a) in
    let b : m * 10 ^ u ≤ m * 10 ^ (d + 22) = mul-le-mul_left m (ten_le {i = u} (d + 22) g) in
    let c : m * 10 ^ (d + 22) ≤ 10 ^ 15 * 10 ^ (d + 22) = mul-le-mul_right (10 ^ (d + 22)) (omega arith) in
    let high : m * 10 ^ u ≤ 10 ^ 37 * 10 ^ d = omega (arith, pow-add 10 d 22, b, c) in
    signed (s && ltb 0 m) (m * 10 ^ u) (10 ^ d) (between_limits (m * 10 ^ u) (10 ^ d) t low high)

within_proper : (s : Bool) (m u d : ℕ) → within m u d ≡ true → proper (rounded s m u d) ≡ true
within_proper s m u d h =
    let a = both (ltb m (10 ^ 15)) (leb u (d + 22) && leb d (u + 22)) h in
    let b = both (leb u (d + 22)) (leb d (u + 22)) a.1 in
    either (eqb m 0)
    (λ e. let z : m ≡ 0 = eqb-true m 0 e in rw z (zero_proper s u d))
    (λ e.
    some_proper s m u d (let n = eqb-false m 0 e in omega arith) (ltb-true m (10 ^ 15) a.0) (leb-true u (d + 22) b.0) (leb-true d (u + 22) b.1))

largest_proper : (s : Bool) → proper (rounded s 9223372036854775808 0 0) ≡ true
unfolding round
largest_proper true = refl
largest_proper false = refl

taken : (s : Bool) (m : ℕ) (f : Option (List ℕ)) (e : Option Exponent)
    → (within m (up e) (length (fraction_digits f) + down e) || (bare f e && eqb m 9223372036854775808)) ≡ true
    → proper (rounded s m (up e) (length (fraction_digits f) + down e)) ≡ true
taken s m None None h =
    either (within m 0 0) (λ t. within_proper s m 0 0 t)
    (λ t. let z : m ≡ 9223372036854775808 = eqb-true m 9223372036854775808 (rw t at h) in rw z (largest_proper s))
taken s m None (Some e) h =
    let u = up (Some e) in
    let d = 0 + down (Some e) in
    either (within m u d) (λ t. within_proper s m u d t) (λ t. absurd (false≢true (rw t at h)))
taken s m (Some f) e h =
    let d = length f + down e in
    either (within m (up e) d) (λ t. within_proper s m (up e) d t) (λ t. absurd (false≢true (rw t at h)))

pub double_proper : (n : Number) → is_taken n ≡ true → proper (double n) ≡ true
double_proper n t = taken (negative n.sign) (decimal 0 (n.whole ++ fraction_digits n.fraction)) n.fraction n.exponent t
