-- The text of a float by any fraction that is its value, and by the fields of its bits.
-- Assumes nothing.
use Rattle.std.specs.Prelude.{Some}
use Prim.Native.Nat.{ℕ, suc, ◌+◌, ◌-◌, ◌*◌, ◌/◌, ◌%◌, ◌^◌, ◌≤◌, ◌<◌}
use native.Mathlib.Omega.{arith}
use native.Mathlib.Nat.{mul-one, mul_assoc, mul_right_comm, mul-le-mul, mul-le-mul_right}
use mathlib.Core.Path.{◌≡◌, refl, sym, ap, ◌∙◌, subst}
use mathlib.Core.List.{List}
use mathlib.Core.Bool.{Bool}
use lib.Dec.{eqb, ltb}
use lib.Pow.{pow-add, pow_pos, pow_mono}
use lib.Ieee.{Float, nan, inf, fin, up, down, of_bits, of_fields, odd, binary32}
use lib.Ieee.Exact.{HasValue, odd_sign}
use lib.Ieee.Fits.{down_pos}
use borrow.Author.Tests.{ltb-true, ltb-false, ne_eqb}
use Rattle.ascii.proofs.Cases.{either, by_test}
use Rattle.weight.specs.declared.Edition.{Edition}
use Rattle.weight.specs.Weight.{decimals, rounded, units_text, in_ten_places, stars, weight_text}
use Rattle.weight.specs.Code.{sign_bit, text_by}
use Rattle.weight.proofs.Rounded.{rounded_same, rounded_whole}
use Rattle.weight.proofs.Long.{too_long}

-- the text of a / b, below zero where s is true
abbrev pub fraction_text : Edition → Bool → ℕ → ℕ → List ℕ
fraction_text ed s a b = in_ten_places (units_text ed s (rounded ed (a * 10 ^ decimals ed) b))

module _ (ed : Edition) (s : Bool) (a b c d : ℕ) (B : 0 < b) (D : 0 < d) where
  -- equal fractions have the same text
  same_text : a * d ≡ c * b → fraction_text ed s a b ≡ fraction_text ed s c d
  same_text h =
      let p = 10 ^ decimals ed in
      let e : a * p * d ≡ c * p * b = mul_right_comm a p d ∙ ap (λ (x : ℕ). x * p) h ∙ mul_right_comm c b p in
      ap (λ (k : ℕ). in_ten_places (units_text ed s k)) (rounded_same ed (a * p) b (c * p) d B D e)

pub value_text : (ed : Edition) (v : Float) (s : Bool) (a b : ℕ) → 0 < b → HasValue v s a b
    → weight_text ed v ≡ fraction_text ed s a b
unfolding weight_text
value_text ed nan s a b B h = absurd h
value_text ed (inf t) s a b B h = absurd h
value_text ed (fin t m e) s a b B h =
    ap (λ (u : Bool). fraction_text ed u (m * up e) (down e)) h.0
    ∙ same_text ed s (m * up e) (down e) a b (down_pos e) B h.1

-- ---- the fields of the bits

abbrev float : ℕ → Float
float bits = of_bits binary32 bits

abbrev exponent : ℕ → ℕ
exponent bits = bits / 8388608 % 256

abbrev fraction : ℕ → ℕ
fraction bits = bits % 8388608

-- of a value that is not below the least normal one
abbrev significand : ℕ → ℕ
significand bits = 8388608 + fraction bits

field : (bits : ℕ) → bits % 2147483648 / 8388608 ≡ exponent bits
field bits = omega arith

small_value : (bits : ℕ) → exponent bits ≡ 0 → HasValue (float bits) (sign_bit bits) (fraction bits) (2 ^ 149)
unfolding of_bits of_fields
small_value bits e =
    let s = sign_bit bits in
    let t = fraction bits in
    rw (field bits, e)
    (subst (λ (n : ℕ). HasValue (odd 24 s t 0 149) s n (2 ^ 149)) (mul-one t) (odd_sign 24 s t 0 149))

normal_value : (bits x : ℕ) → exponent bits ≡ suc x → x < 254
    → HasValue (float bits) (sign_bit bits) (significand bits * 2 ^ x) (2 ^ 149)
unfolding of_bits of_fields
normal_value bits x e h =
    rw (field bits, e, ne_eqb (suc x) 255 (λ f. omega arith)) (odd_sign 24 (sign_bit bits) (significand bits) x 149)

-- ---- the text by the fields

-- an infinity or no number
none_text : (ed : Edition) (bits : ℕ) → exponent bits ≡ 255 → weight_text ed (float bits) ≡ stars
unfolding of_bits of_fields weight_text
none_text ed bits e =
    rw (field bits, e)
    (by_test (λ (v : Float). weight_text ed v ≡ stars) (eqb (fraction bits) 0) (λ t. refl) (λ t. refl))

regroup : (q z p : ℕ) → q * (z * p) * 1 ≡ q * p * z
regroup q z p = omega arith

large : (q z p : ℕ) → 8388608 ≤ q → 16 ≤ p → 100000000 * z ≤ q * (z * p)
large q z p h l =
    let m : 8388608 * 16 ≤ q * p = mul-le-mul {n₁ = 8388608} {m₁ = 16} h l in
    let n : 134217728 * z ≤ q * p * z = mul-le-mul_right z m in
    omega arith

module _ (ed : Edition) (bits : ℕ) where
  -- by a fraction that is the value
  normal_text : (x c d : ℕ) → exponent bits ≡ suc x → x < 254 → 0 < d → significand bits * 2 ^ x * d ≡ c * 2 ^ 149
      → weight_text ed (float bits) ≡ fraction_text ed (sign_bit bits) c d
  normal_text x c d e h D f =
      let s = sign_bit bits in
      let n = significand bits * 2 ^ x in
      value_text ed (float bits) s n (2 ^ 149) (pow_pos 149) (normal_value bits x e h)
      ∙ same_text ed s n (2 ^ 149) c d (pow_pos 149) D f

  -- the exponent's field is 0
  pub small_text : exponent bits ≡ 0
      → weight_text ed (float bits) ≡ fraction_text ed (sign_bit bits) (fraction bits) (2 ^ 149)
  small_text e =
      value_text ed (float bits) (sign_bit bits) (fraction bits) (2 ^ 149) (pow_pos 149) (small_value bits e)

  -- 1 to 150
  pub shifted_text : (y : ℕ) → exponent bits + y ≡ 150 → 0 < exponent bits
      → weight_text ed (float bits) ≡ fraction_text ed (sign_bit bits) (significand bits) (2 ^ y)
  shifted_text y e h =
      let q = significand bits in
      let x = exponent bits - 1 in
      let z : x + y ≡ 149 = omega arith in
      let p : 2 ^ x * 2 ^ y ≡ 2 ^ 149 = sym (pow-add 2 x y) ∙ ap (λ (n : ℕ). 2 ^ n) z in
      let f = mul_assoc q (2 ^ x) (2 ^ y) ∙ ap (λ (n : ℕ). q * n) p in
      normal_text x q (2 ^ y) (omega arith) (omega arith) (pow_pos y) f

  -- 150 to 254
  pub whole_text : (k : ℕ) → exponent bits ≡ 150 + k → k < 105
      → weight_text ed (float bits) ≡ text_by ed (sign_bit bits) (Some (significand bits * 2 ^ k * 10 ^ decimals ed))
  whole_text k e h =
      let q = significand bits in
      let f = ap (λ (n : ℕ). q * n * 1) (pow-add 2 149 k) ∙ regroup q (2 ^ 149) (2 ^ k) in
      normal_text (149 + k) (q * 2 ^ k) 1 (omega arith) (omega arith) (omega arith) f
      ∙ ap (λ (n : ℕ). text_by ed (sign_bit bits) (Some n)) (rounded_whole ed (q * 2 ^ k * 10 ^ decimals ed))

  -- 154 and more
  pub stars_text : 154 ≤ exponent bits → weight_text ed (float bits) ≡ stars
  stars_text h =
      either (ltb (exponent bits) 255)
      (λ t.
      let f = ltb-true (exponent bits) 255 t in
      let s = sign_bit bits in
      let j = exponent bits - 150 in
      let q = significand bits in
      let n = q * 2 ^ (149 + j) in
      let p : 16 ≤ 2 ^ j = pow_mono {i = 4} {j = j} (omega arith) in
      let l : 100000000 * 2 ^ 149 ≤ n = rw (pow-add 2 149 j) (large q (2 ^ 149) (2 ^ j) (omega arith) p) in
      value_text ed (float bits) s n (2 ^ 149) (pow_pos 149) (normal_value bits (149 + j) (omega arith) (omega arith))
      ∙ too_long ed s n (2 ^ 149) (pow_pos 149) l)
      (λ t. none_text ed bits (omega (arith, ltb-false (exponent bits) 255 t)))
