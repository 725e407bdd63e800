-- `of_bits` meets its contract, by the field of the exponent.
use Rattle.std.proofs.Common.{◌≡◌, ◌≤◌, ◌<◌, ◌^◌, ◌*◌, ◌+◌, ◌-◌, ◌/◌, ◌%◌, ℕ, ap, sym, ◌∙◌, arith, Some}
use native.Mathlib.Nat.{mul-le-mul_left}
use lib.Pow.{pow_mono}
use Rattle.weight.specs.declared.Edition.{Edition}
use Rattle.weight.specs.Weight.{decimals}
use Rattle.weight.specs.Code.{sign_bit, text_by}
use Rattle.weight.proofs.Bits.{small_text, shifted_text, whole_text, stars_text}
use Rattle.weight.proofs.Long.{scaled_most}
use Rattle.weight.proofs.units.of_bits.Goals as goal
use Rattle.weight.proofs.units.of_bits.Goals.{After-scale}

pub returns-then-exponent-ge-NINE_DIGITS-clause-text : goal.returns-then-exponent-ge-NINE_DIGITS-clause-text
returns-then-exponent-ge-NINE_DIGITS-clause-text c =
    stars_text c.args.edition c.args.bits c.if-exponent-ge-NINE_DIGITS.true

-- the text by these units
units_by : (ed : Edition) (bits : ℕ) {m n : ℕ} → m ≡ n
    → text_by ed (sign_bit bits) (Some n) ≡ text_by ed (sign_bit bits) (Some m)
units_by ed bits e = ap (λ (k : ℕ). text_by ed (sign_bit bits) (Some k)) (sym e)

pub returns-then-exponent-eq0-clause-text : goal.returns-then-exponent-eq0-clause-text
returns-then-exponent-eq0-clause-text c =
    let a = c.args in
    small_text a.edition a.bits c.if-exponent-eq0.true ∙ units_by a.edition a.bits c.shifted.ensures.units

pub returns-then-exponent-lt-WHOLE-clause-text : goal.returns-then-exponent-lt-WHOLE-clause-text
returns-then-exponent-lt-WHOLE-clause-text c =
    let a = c.args in
    shifted_text a.edition a.bits (150 - a.bits / 8388608 % 256) (omega arith) (omega arith)
    ∙ units_by a.edition a.bits c.shifted-then-exponent-lt-WHOLE.ensures.units

-- ---- a significand times a power of two that is a whole number

whole_bound : (q k : ℕ) → q < 16777216 → k ≤ 3 → q * 2 ^ k < 134217728
whole_bound q k h l = let m : q * 2 ^ k ≤ q * 8 = mul-le-mul_left q (pow_mono {i = k} {j = 3} l) in omega arith

-- a shift to the left keeps all bits
kept : (q k : ℕ) → q < 16777216 → k ≤ 3 → q * 2 ^ k % 18446744073709551616 ≡ q * 2 ^ k
kept q k h l = let b = whole_bound q k h l in omega arith

scaled : (ed : Edition) (q k f : ℕ) → q < 16777216 → k ≤ 3 → f ≡ 10 ^ decimals ed
    → q * 2 ^ k % 18446744073709551616 * f < 17179869184
scaled ed q k f h l e = rw (kept q k h l, e) (omega (arith, whole_bound q k h l, scaled_most ed (q * 2 ^ k)))

-- a significand, shifted as the code does
abbrev whole : ℕ → ℕ
whole bits = (8388608 + bits % 8388608) * 2 ^ (bits / 8388608 % 256 - 150) % 18446744073709551616

bound : (c : After-scale) → whole c.args.bits * c.scale.result < 17179869184
bound c =
    let b = c.args.bits in
    scaled c.args.edition (8388608 + b % 8388608) (b / 8388608 % 256 - 150) c.scale.result (omega arith) (omega arith)
    c.scale.ensures

pub overflow_mul-result : goal.overflow_mul-result
overflow_mul-result c = let b = bound c in omega arith

pub returns-clause-text : goal.returns-clause-text
returns-clause-text c =
    let a = c.args in
    let k = a.bits / 8388608 % 256 - 150 in
    rw (kept (8388608 + a.bits % 8388608) k (omega arith) (omega arith), c.scale.ensures)
    (whole_text a.edition a.bits k (omega arith) (omega arith))

pub returns-clause-bound : goal.returns-clause-bound
returns-clause-bound c = bound c
