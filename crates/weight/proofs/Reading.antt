-- The text of some units read as a number, and what the text of a weight says of the float's exact value.
-- Assumes nothing.
use Prim.Native.Nat.{ℕ, zero, suc, ◌+◌, ◌-◌, ◌*◌, ◌/◌, ◌%◌, ◌^◌, ◌≤◌, ◌<◌, zero-le}
use mathlib.Core.Path.{◌≡◌, refl, ◌∙◌}
use mathlib.Core.Bool.{Bool, true, ◌&&◌}
use mathlib.Core.List.{List, [], ◌∷◌, ◌++◌}
use native.Mathlib.Omega.{arith}
use native.Mathlib.Nat.{le_of_lt, lt_of_le_of_lt, mul-le-mul_right, le_of_mul-le-mul_right, zero-mul}
use lib.ListN.{length}
use lib.Dec.{T, eqb, ltb, leb, ltb→lt, lit<}
use lib.IntN.{ℤ}
use lib.Ieee.{Float, nan, inf, fin, up, down, of_bits, binary32, fits, prec, low, emax}
use lib.Ieee.Bits.{of_bits-fits}
use lib.Ieee.Fits.{and_r, down_pos}
use mathlib.Core.Logic.{◌⊎◌, inl, inr}
use lib.Seq.{append_snoc}
use borrow.Author.Tests.{ltb-true}
use Rattle.std.specs.List.{list_all}
use Rattle.std.proofs.lemmas.List.Folds.{list_all-append}
use Rattle.ascii.specs.Text.{digit, decimal}
use Rattle.ascii.specs.Number.{decimal_in}
use Rattle.ascii.proofs.Back.{decimal_back}
use Rattle.ascii.proofs.Cases.{by_test}
use Rattle.ascii.proofs.Decimal.{snoc, digit_yes}
use Rattle.weight.specs.declared.Edition.{Edition}
use Rattle.weight.specs.declared.Edition.TheVariants.{One, Two}
use Rattle.weight.specs.Weight.{decimals, last_digits, units_text, units_of, stars, weight_text}
use Rattle.weight.specs.Reading.{Number, said, WithinHalf, Says}
use Rattle.weight.proofs.Digits.{some_digit, no_zero}
use Rattle.weight.proofs.Long.{last_length}
use Rattle.weight.proofs.Rounded.{Near, rounded_near}

-- ---- digits

-- a last digit more
digits_snoc : (xs : List ℕ) (n : ℕ) → list_all digit xs ≡ true → list_all digit (xs ++ ((48 + n % 10) ∷ [])) ≡ true
digits_snoc xs n h =
    rw (list_all-append digit xs ((48 + n % 10) ∷ []), h, digit_yes (48 + n % 10) (omega arith) (omega arith))

in_digits : (k n : ℕ) → list_all digit (decimal_in k n) ≡ true
unfolding decimal_in
in_digits zero n = refl
in_digits (suc k) n =
    by_test (λ (s : List ℕ). list_all digit s ≡ true) (ltb n 10)
    (λ t. rw (digit_yes (48 + n) (omega arith) (omega (arith, ltb-true n 10 t))))
    (λ t. digits_snoc (decimal_in k (n / 10)) n (in_digits k (n / 10)))

last_all : (k n : ℕ) → list_all digit (last_digits k n) ≡ true
unfolding last_digits
last_all zero n = refl
last_all (suc k) n = digits_snoc (last_digits k (n / 10)) n (last_all k (n / 10))

-- ---- the text of some units

-- the bounds as variables, since `omega` reads no number of 40 digits
tenth : (bound n : ℕ) → n < bound * 10 → n / 10 < bound
tenth bound n h = omega arith

hundredth : (bound n : ℕ) → n < bound * 100 → n / 100 < bound
hundredth bound n h = omega arith

decimal_two : (xs : List ℕ) (x y : ℕ)
    → decimal 0 (xs ++ (x ∷ y ∷ [])) ≡ (decimal 0 xs * 10 + (x - 48)) * 10 + (y - 48)
decimal_two xs x y = rw (← append_snoc xs x (y ∷ []), snoc 0 (xs ++ (x ∷ [])) y, snoc 0 xs x)

whole_below : (ed : Edition) (units : ℕ) → units < 10 ^ (39 + decimals ed) → units / 10 ^ decimals ed < 10 ^ 39
whole_below One units h = tenth (10 ^ 39) units h
whole_below Two units h = hundredth (10 ^ 39) units h

-- the digits of some units, taken together
decimal_units : (ed : Edition) (units : ℕ) → units < 10 ^ (39 + decimals ed)
    → decimal 0 (decimal_in 39 (units / 10 ^ decimals ed) ++ last_digits (decimals ed) units) ≡ units
unfolding last_digits
decimal_units One units h =
    let q = units / 10 in
    snoc 0 (decimal_in 39 q) (48 + units % 10) ∙ rw (decimal_back 39 q (tenth (10 ^ 39) units h)) (omega arith)
decimal_units Two units h =
    let q = units / 100 in
    decimal_two (decimal_in 39 q) (48 + units / 10 % 10) (48 + units % 10)
    ∙ rw (decimal_back 39 q (hundredth (10 ^ 39) units h)) (omega arith)

-- a text that is a number with an edition's decimals and says so many units, with a minus where s is true and they are
-- not 0
pub record ReadAs (ed : Edition) (s : Bool) (units : ℕ) (text : List ℕ) : Type 0 where
  pub number : Number text
  pub places : length number.after ≡ decimals ed
  pub says : said number ≡ units
  pub sign : number.negative ≡ (s && ltb 0 units)

pub units_read : (ed : Edition) (s : Bool) (units : ℕ) → units < 10 ^ (39 + decimals ed)
    → ReadAs ed s units (units_text ed s units)
unfolding units_text
units_read ed s units h =
    let n = units / 10 ^ decimals ed in
    let before = decimal_in 39 n in
    let after = last_digits (decimals ed) units in
    record {
      number = record {
        negative = s && ltb 0 units;
        before = before;
        after = after;
        parts = refl;
        some = some_digit 38 n;
        plain = no_zero 38 n (whole_below ed units h);
        digits = rw (list_all-append digit before after, in_digits 39 n, last_all (decimals ed) units);
      };
      places = last_length ed units;
      says = decimal_units ed units h;
      sign = refl;
    }

-- ---- the text of a weight

-- a single float that has a number lies below 2 ^ 128
single_le : (s : Bool) (m : ℕ) (e : ℤ) → T (fits binary32 (fin s m e)) → m * up e ≤ 2 ^ 128 * down e
unfolding fits
single_le s zero e h = rw zero-mul zero-le
single_le s (suc m) e h =
    let shape : Bool = eqb (suc m % 2) 1 && ltb (suc m) (2 ^ prec binary32) && leb (down e) (2 ^ low binary32) in
    let size : Bool = ltb (suc m * up e) (2 ^ suc (emax binary32) * down e) in
    le_of_lt (ltb→lt (suc m * up e) (2 ^ 128 * down e) (and_r shape size h))

-- what is within half of a number up to a bound
near_le : (p num den k bound : ℕ) → 0 < den → num ≤ bound * den → Near (num * p) den k → k ≤ bound * p
near_le p num den k bound h l w =
    let x : num * p ≤ bound * den * p = mul-le-mul_right p l in
    let c : k * 2 ≤ bound * p * 2 + 1 =
    le_of_mul-le-mul_right {m = k * 2} {n = bound * p * 2 + 1} {k = den} (omega arith) h in
    omega arith

units_lt : (ed : Edition) (num den k : ℕ) → 0 < den → num ≤ 2 ^ 128 * den
    → Near (num * 10 ^ decimals ed) den k → k < 10 ^ (39 + decimals ed)
units_lt One num den k h l w = lt_of_le_of_lt (near_le 10 num den k (2 ^ 128) h l w) (lit< tt)
units_lt Two num den k h l w = lt_of_le_of_lt (near_le 100 num den k (2 ^ 128) h l w) (lit< tt)

-- the text of some units that are within half of the exact value, and that it says these units
near_within : (ed : Edition) (s : Bool) (num den k : ℕ) → k < 10 ^ (39 + decimals ed)
    → Near (num * 10 ^ decimals ed) den k
    → (t : WithinHalf ed s num den (units_text ed s k)) × (said t.number ≡ k)
near_within ed s num den k h w =
    let r = units_read ed s k h in (
      record {
        number = r.number;
        places = r.places;
        high = rw r.says w.high;
        low = rw r.says w.low;
        sign = rw r.says r.sign;
      },
      r.says,
    )

-- the text of the units of a single float says its exact value, if it is a number
pub units_within : (ed : Edition) (s : Bool) (m : ℕ) (e : ℤ) → T (fits binary32 (fin s m e))
    → (t : WithinHalf ed s (m * up e) (down e) (units_text ed s (units_of ed m e)))
    × (said t.number ≡ units_of ed m e)
units_within ed s m e f =
    let k = units_of ed m e in
    let w = rounded_near ed (m * up e * 10 ^ decimals ed) (down e) (down_pos e) in
    near_within ed s (m * up e) (down e) k
    (units_lt ed (m * up e) (down e) k (down_pos e) (single_le s m e f) w) w

-- the text of every value that a single float has
value_says : (ed : Edition) (v : Float) → T (fits binary32 v)
    → (weight_text ed v ≡ stars) ⊎ Says ed v (weight_text ed v)
unfolding weight_text
value_says ed nan f = inl refl
value_says ed (inf s) f = inl refl
value_says ed (fin s m e) f =
    by_test (λ (t : List ℕ). (t ≡ stars) ⊎ WithinHalf ed s (m * up e) (down e) t)
    (leb (length (units_text ed s (units_of ed m e))) 10)
    (λ t. inr (units_within ed s m e f).0)
    (λ t. inl refl)

-- the text of every bit pattern is ten stars or says the float's exact value
pub weight_says : (ed : Edition) (bits : ℕ)
    → (weight_text ed (of_bits binary32 bits) ≡ stars)
    ⊎ Says ed (of_bits binary32 bits) (weight_text ed (of_bits binary32 bits))
weight_says ed bits = value_says ed (of_bits binary32 bits) (of_bits-fits binary32 bits)
