-- Scaled values: each double stands beside its bits, the type's own zero with the factor 1 gives exact whole numbers, and the
-- type of a value alone tells whether it is scaled and whether it has a stored number.
-- Assumes nothing.
use Prim.Native.Nat.{ℕ, zero, suc, ◌+◌, ◌-◌, ◌*◌, ◌^◌, ◌<◌}
use mathlib.Core.Path.{◌≡◌, refl, sym, ap, subst, ◌∙◌}
use mathlib.Core.Bool.{Bool, true, false, cond, ◌||◌, beq, true≢false}
use mathlib.Core.List.{List}
use native.Mathlib.Omega.{arith}
use lib.Dec.{T, ltb, eqb}
use lib.IntN.{ℤ, pos, negsuc, neg_ℤ, ◌+ℤ◌, ◌-ℤ◌, nat_abs}
use lib.Ieee.{Float, nan, inf, fin, Format, binary64, prec, low, emax, up, down, fits}
use lib.Ieee.{add, mul, eq, of_int, to_bits, is_nan, round, units, odd}
use lib.Ieee.Bits.{of_bits-to_bits}
use lib.Ieee.Back.{whole_unique}
use lib.Ieee.Fits.{add-fits, of_int-fits, down_pos}
use lib.Pow.{pow_pos}
use native.Mathlib.Nat.{mul-pos}
use lib.Signed.{mag}
use borrow.Author.Tests.{ltb-true, ltb-false, eqb-true, le-ltb, eq-eqb, ne_eqb}
use Rattle.std.specs.Prelude.{FitsSigned, is_some}
use Rattle.std.specs.Int.{Width, w8, w16, w32, w64}
use Rattle.std.specs.Float.{float_one}
use Rattle.ascii.specs.Text.{bytes}
use Rattle.ascii.proofs.Cases.{by_test, either, both}
use Rattle.layout.specs.declared.Scaling.{Scaling}
use Rattle.tform.specs.declared.VariableArrayTy.{VariableArrayTy}
use Rattle.tform.specs.declared.VariableArrayTy.TheVariants as T
use Rattle.tform.specs.declared.TFormType.{TFormType}
use Rattle.tform.specs.declared.TFormType.TheVariants as F
use Rattle.tform.specs.Width.{among, element, can_scale, can_have_null}
use Rattle.cell.specs.declared.DataValue.{DataValue}
use Rattle.cell.specs.declared.DataValue.TheVariants as D
use Rattle.cell.specs.Item.{BitsKept, raw_item, stored_number}
use Rattle.cell.specs.Scaled.{double_of, scaled_whole, shifts_by, unsigned_or, scaled_value}

-- ---- bits

-- a sum is a value of its format, which stands beside its bits
sum_kept : (x y : Float) → BitsKept (double_of (add binary64 x y))
sum_kept x y = sym (of_bits-to_bits binary64 (add binary64 x y) (add-fits binary64 x y))

whole_kept : (s : Scaling) (z : ℤ) → BitsKept (scaled_whole s z)
whole_kept s z = sum_kept s.zero (mul binary64 s.factor (of_int binary64 z))

unsigned_kept : (half : ℕ) (s : Scaling) (z : ℤ) → BitsKept (unsigned_or half s z)
unsigned_kept half s z = by_test BitsKept (shifts_by (pos half) s) (λ e. tt) (λ e. whole_kept s z)

-- each float of a scaled value is the float of the bits beside it, as each float of the plain value is
pub scaled_bits : (s : Scaling) (v : DataValue) → BitsKept v → BitsKept (scaled_value s v)
scaled_bits s D.Unset h = tt
scaled_bits s (D.Logical v) h = tt
scaled_bits s (D.Bit n) h = tt
scaled_bits s (D.UnsignedByte n) h =
    by_test BitsKept (shifts_by (neg_ℤ (pos 128)) s) (λ e. tt) (λ e. whole_kept s (pos n))
scaled_bits s (D.Short z) h = unsigned_kept 32768 s z
scaled_bits s (D.Integer z) h = unsigned_kept 2147483648 s z
scaled_bits s (D.Long z) h = unsigned_kept 9223372036854775808 s z
scaled_bits s (D.UnsignedLong n) h = tt
scaled_bits s (D.Character n) h = tt
scaled_bits s (D.Float x bits) h = sum_kept s.zero (mul binary64 s.factor x)
scaled_bits s (D.Double x bits) h = sum_kept s.zero (mul binary64 s.factor x)
scaled_bits s (D.ComplexFloat x b y c) h = h
scaled_bits s (D.ComplexDouble x b y c) h = h
scaled_bits s (D.VariableLengthArray32 n o) h = tt
scaled_bits s (D.VariableLengthArray64 n o) h = tt

-- what a double's bits are, where a value is a double
abbrev HasBitsOf : DataValue → Type 0
HasBitsOf (D.Double x bits) = bits ≡ to_bits binary64 x
HasBitsOf _ = Unit {0}

unsigned_bits : (half : ℕ) (s : Scaling) (z : ℤ) → HasBitsOf (unsigned_or half s z)
unsigned_bits half s z = by_test HasBitsOf (shifts_by (pos half) s) (λ e. tt) (λ e. refl)

bits_of : (s : Scaling) (v : DataValue) → HasBitsOf (scaled_value s v)
bits_of s (D.UnsignedByte n) = by_test HasBitsOf (shifts_by (neg_ℤ (pos 128)) s) (λ e. tt) (λ e. refl)
bits_of s (D.Short z) = unsigned_bits 32768 s z
bits_of s (D.Integer z) = unsigned_bits 2147483648 s z
bits_of s (D.Long z) = unsigned_bits 9223372036854775808 s z
bits_of s (D.Float x bits) = refl
bits_of s (D.Double x bits) = refl
bits_of s _ = tt

-- the bits of a NaN
pub nan_is : to_bits binary64 nan ≡ 0x7ff8000000000000
unfolding to_bits
nan_is = refl

-- a scaled value that is a NaN has the bits 7FF8000000000000 (hex), whatever the stored bits are
pub nan_bits : (s : Scaling) (v : DataValue) (bits : ℕ) → scaled_value s v ≡ D.Double nan bits → bits ≡ 0x7ff8000000000000
nan_bits s v bits e = subst HasBitsOf e (bits_of s v) ∙ nan_is

-- ---- the factor 1 and the type's own zero

odd_number : (d : ℕ) (s : Bool) (q k l : ℕ) → is_nan (odd d s q k l) ≡ false
unfolding odd is_nan
odd_number d s zero k l = refl
odd_number d s (suc q) k l = refl

units_number : (f : Format) (s : Bool) (q k : ℕ) → is_nan (units f s q k) ≡ false
unfolding units is_nan
units_number f s q k =
    by_test (λ (x : Float). is_nan x ≡ false) (ltb (q * 2 ^ k) (2 ^ (low f + suc (emax f))))
    (λ e. odd_number (suc (prec f)) s q k (low f)) (λ e. refl)

of_int_number : (f : Format) (z : ℤ) → is_nan (of_int f z) ≡ false
unfolding of_int round
of_int_number f (pos n) = units_number f false _ _
of_int_number f (negsuc n) = units_number f true _ _

same_sign : (s : Bool) → beq s s ≡ true
same_sign true = refl
same_sign false = refl

-- a double that is no NaN equals itself
eq_self : (x : Float) → is_nan x ≡ false → eq x x ≡ true
unfolding eq is_nan
eq_self nan h = sym h
eq_self (inf s) h = same_sign s
eq_self (fin s m e) h = rw (eq-eqb _ _ refl, same_sign s) refl

-- the test of a scaling passes at the factor 1 and the zero that it names
pub shifts : (s : Scaling) (z : ℤ) → s.factor ≡ float_one → s.zero ≡ of_int binary64 z → shifts_by z s ≡ true
unfolding shifts_by is_nan
shifts s z f e = rw (f, e, eq_self float_one refl, eq_self (of_int binary64 z) (of_int_number binary64 z)) refl

signs : (t u b : Bool) → (beq t u || b) ≡ true → b ≡ false → t ≡ u
signs true true b h e = refl
signs true false b h e = absurd (true≢false (sym h ∙ e))
signs false true b h e = absurd (true≢false (sym h ∙ e))
signs false false b h e = refl

never_zero : (a p d : ℕ) → 0 < p → 0 < d → a * 1 ≡ 1 * p * d → a * 1 ≡ 0 → ⊥
never_zero a p d h k e z = omega (arith, e, z, mul-pos h k)

-- a double that equals plus or minus a power of two is that double
equal_is : (x : Float) (u : Bool) (k : ℕ) → T (fits binary64 x) → T (fits binary64 (fin u 1 (pos k)))
    → eq x (fin u 1 (pos k)) ≡ true → x ≡ fin u 1 (pos k)
unfolding eq
equal_is nan u k h g e = absurd (true≢false (sym e))
equal_is (inf t) u k h g e = absurd (true≢false (sym e))
equal_is (fin t m e) u k h g q =
    let two = both (eqb (m * up e * 1) (1 * 2 ^ k * down e)) (beq t u || eqb (m * up e * 1) 0) q in
    let size = eqb-true (m * up e * 1) (1 * 2 ^ k * down e) two.0 in
    let sign = signs t u _ two.1 (ne_eqb (m * up e * 1) 0 (never_zero (m * up e) (2 ^ k) (down e) (pow_pos k) (down_pos e) size)) in
    whole_unique binary64 (fin t m e) (fin u 1 (pos k)) u (1 * 2 ^ k) h g (sign, size) (refl, refl)

-- no other factor and no other zero pass the test of a scaling whose zero is plus or minus a power of two
only : (s : Scaling) (z : ℤ) (u : Bool) (k : ℕ) → of_int binary64 z ≡ fin u 1 (pos k)
    → T (fits binary64 s.factor) → T (fits binary64 s.zero) → shifts_by z s ≡ true → (s.factor ≡ float_one) × (s.zero ≡ of_int binary64 z)
unfolding shifts_by fits
only s z u k p f g e =
    let two = both (eq s.factor float_one) (eq s.zero (of_int binary64 z)) e in
    let power = subst (λ (x : Float). T (fits binary64 x)) p (of_int-fits binary64 z) in
    let same = subst (λ (x : Float). eq s.zero x ≡ true) p two.1 in
    (equal_is s.factor false 0 f tt two.0, equal_is s.zero u k g power same ∙ sym p)

-- the value is the whole number z + half, which is below 2 * half
abbrev pub IsSum : ℕ → ℤ → DataValue → Type 0
IsSum half z v = (n : ℕ) × (v ≡ D.UnsignedLong n) × (pos n ≡ z +ℤ pos half) × (n < 2 * half)

sum_number : (half : ℕ) (z : ℤ) → mag z < half
    → (pos (nat_abs (z +ℤ pos half)) ≡ z +ℤ pos half) × (nat_abs (z +ℤ pos half) < 2 * half)
sum_number half (pos n) h = (refl, omega arith)
sum_number half (negsuc n) h = rw (le-ltb half (suc n) h) (refl, omega arith)

is_sum : (half : ℕ) (s : Scaling) (z : ℤ) → shifts_by (pos half) s ≡ true → mag z < half
    → IsSum half z (unsigned_or half s z)
is_sum half s z e h =
    let k = sum_number half z h in
    (nat_abs (z +ℤ pos half), ap (λ (t : Bool). cond t (D.UnsignedLong (nat_abs (z +ℤ pos half))) (scaled_whole s z)) e, k.0, k.1)

-- a byte, with the factor 1 and the zero -128, is the exact whole number from -128 to 127
pub exact_byte : (s : Scaling) (n : ℕ) → s.factor ≡ float_one → s.zero ≡ of_int binary64 (neg_ℤ (pos 128))
    → n < 2 ^ 8 → (scaled_value s (D.UnsignedByte n) ≡ D.Long (pos n -ℤ pos 128)) × FitsSigned w8 (pos n -ℤ pos 128)
exact_byte s n f e h = (
  ap (λ (t : Bool). cond t (D.Long (pos n -ℤ pos 128)) (scaled_whole s (pos n))) (shifts s (neg_ℤ (pos 128)) f e),
  record { sfits = by_test (λ (z : ℤ). mag z < 128) (ltb n 128) (λ t. omega arith) (λ t. omega arith) },
)

-- a stored number, with the factor 1 and its type's zero, is the exact whole number from 0 to below twice the zero
pub exact_short : (s : Scaling) (z : ℤ) → s.factor ≡ float_one → s.zero ≡ of_int binary64 (pos 32768) → FitsSigned w16 z
    → IsSum 32768 z (scaled_value s (D.Short z))
exact_short s z f e h = is_sum 32768 s z (shifts s (pos 32768) f e) h.sfits

pub exact_integer : (s : Scaling) (z : ℤ) → s.factor ≡ float_one → s.zero ≡ of_int binary64 (pos 2147483648)
    → FitsSigned w32 z
    → IsSum 2147483648 z (scaled_value s (D.Integer z))
exact_integer s z f e h = is_sum 2147483648 s z (shifts s (pos 2147483648) f e) h.sfits

pub exact_long : (s : Scaling) (z : ℤ) → s.factor ≡ float_one → s.zero ≡ of_int binary64 (pos 9223372036854775808)
    → FitsSigned w64 z
    → IsSum 9223372036854775808 z (scaled_value s (D.Long z))
exact_long s z f e h = is_sum 9223372036854775808 s z (shifts s (pos 9223372036854775808) f e) h.sfits

from_lower : (half n : ℕ) → n < half → negsuc (half - suc n) +ℤ pos half ≡ pos n
from_lower half n h = rw (le-ltb half (suc (half - suc n)) (omega arith)) (ap pos (omega arith))

-- each whole number from 0 to below twice the zero comes of one of the type's numbers
number_of : (half n : ℕ) → n < 2 * half → (z : ℤ) × (mag z < half) × (z +ℤ pos half ≡ pos n)
number_of half n h =
    either (ltb n half)
    (λ t. let l = ltb-true n half t in (negsuc (half - suc n), omega arith, from_lower half n l))
    (λ t. let l = ltb-false n half t in (pos (n - half), omega arith, ap pos (omega arith)))

-- `v` gives the number n for some stored number of a type
abbrev pub Gives : Width → (ℤ → DataValue) → ℕ → Type 0
Gives w v n = (z : ℤ) × FitsSigned w z × (v z ≡ D.UnsignedLong n)

gives : (half n : ℕ) (s : Scaling) → shifts_by (pos half) s ≡ true → n < 2 * half
    → (z : ℤ) × (mag z < half) × (unsigned_or half s z ≡ D.UnsignedLong n)
gives half n s e h =
    let k = number_of half n h in (
      k.0,
      k.1,
      ap (λ (t : Bool). cond t (D.UnsignedLong (nat_abs (k.0 +ℤ pos half))) (scaled_whole s k.0)) e
          ∙ ap (λ (x : ℤ). D.UnsignedLong (nat_abs x)) k.2,
    )

-- each of these numbers is there: from 0 to 65535, to 4294967295 and to 18446744073709551615
pub each_short : (s : Scaling) (n : ℕ) → s.factor ≡ float_one → s.zero ≡ of_int binary64 (pos 32768) → n < 2 ^ 16
    → Gives w16 (λ z. scaled_value s (D.Short z)) n
each_short s n f e h =
    let k = gives 32768 n s (shifts s (pos 32768) f e) h in (k.0, record { sfits = k.1 }, k.2)

pub each_integer : (s : Scaling) (n : ℕ) → s.factor ≡ float_one → s.zero ≡ of_int binary64 (pos 2147483648) → n < 2 ^ 32
    → Gives w32 (λ z. scaled_value s (D.Integer z)) n
each_integer s n f e h =
    let k = gives 2147483648 n s (shifts s (pos 2147483648) f e) h in (k.0, record { sfits = k.1 }, k.2)

pub each_long : (s : Scaling) (n : ℕ) → s.factor ≡ float_one → s.zero ≡ of_int binary64 (pos 9223372036854775808)
    → n < 2 ^ 64
    → Gives w64 (λ z. scaled_value s (D.Long z)) n
each_long s n f e h =
    let k = gives 9223372036854775808 n s (shifts s (pos 9223372036854775808) f e) h in (k.0, record { sfits = k.1 }, k.2)

-- ---- any other factor or zero

-- a scaling whose factor and zero are doubles, as those of a column are
abbrev pub HoldsDoubles : Scaling → Type 0
HoldsDoubles s = T (fits binary64 s.factor) × T (fits binary64 s.zero)

-- the factor is not 1, or the zero is not this one
abbrev pub IsOther : ℤ → Scaling → Type 0
IsOther z s = s.factor ≡ float_one → s.zero ≡ of_int binary64 z → ⊥

other : (s : Scaling) (z : ℤ) (u : Bool) (k : ℕ) → of_int binary64 z ≡ fin u 1 (pos k) → HoldsDoubles s → IsOther z s
    → shifts_by z s ≡ false
other s z u k p d o = either (shifts_by z s) (λ e. let a = only s z u k p d.0 d.1 e in absurd (o a.0 a.1)) (λ e. e)

-- then a stored whole number gives a double
pub other_byte : (s : Scaling) (n : ℕ) → HoldsDoubles s → IsOther (neg_ℤ (pos 128)) s
    → scaled_value s (D.UnsignedByte n) ≡ scaled_whole s (pos n)
unfolding of_int
other_byte s n d o = rw (other s (neg_ℤ (pos 128)) true 7 refl d o) refl

pub other_short : (s : Scaling) (z : ℤ) → HoldsDoubles s → IsOther (pos 32768) s
    → scaled_value s (D.Short z) ≡ scaled_whole s z
unfolding of_int
other_short s z d o = rw (other s (pos 32768) false 15 refl d o) refl

pub other_integer : (s : Scaling) (z : ℤ) → HoldsDoubles s → IsOther (pos 2147483648) s
    → scaled_value s (D.Integer z) ≡ scaled_whole s z
unfolding of_int
other_integer s z d o = rw (other s (pos 2147483648) false 31 refl d o) refl

pub other_long : (s : Scaling) (z : ℤ) → HoldsDoubles s → IsOther (pos 9223372036854775808) s
    → scaled_value s (D.Long z) ≡ scaled_whole s z
unfolding of_int
other_long s z d o = rw (other s (pos 9223372036854775808) false 63 refl d o) refl

-- ---- which values are scaled

-- whether a value is of a type that is scaled
abbrev pub is_scalable : DataValue → Bool
is_scalable (D.UnsignedByte n) = true
is_scalable (D.Short z) = true
is_scalable (D.Integer z) = true
is_scalable (D.Long z) = true
is_scalable (D.Float x bits) = true
is_scalable (D.Double x bits) = true
is_scalable _ = false

-- a value of another type, an unset one, and a descriptor, is as in the plain reading
pub same_type : (s : Scaling) (v : DataValue) → is_scalable v ≡ false → scaled_value s v ≡ v
same_type s D.Unset e = refl
same_type s (D.Logical v) e = refl
same_type s (D.Bit n) e = refl
same_type s (D.UnsignedByte n) e = absurd (true≢false e)
same_type s (D.Short z) e = absurd (true≢false e)
same_type s (D.Integer z) e = absurd (true≢false e)
same_type s (D.Long z) e = absurd (true≢false e)
same_type s (D.UnsignedLong n) e = refl
same_type s (D.Character n) e = refl
same_type s (D.Float x bits) e = absurd (true≢false e)
same_type s (D.Double x bits) e = absurd (true≢false e)
same_type s (D.ComplexFloat x b y c) e = refl
same_type s (D.ComplexDouble x b y c) e = refl
same_type s (D.VariableLengthArray32 n o) e = refl
same_type s (D.VariableLengthArray64 n o) e = refl

-- for each type: its items are scaled where its numbers may be, and have a stored number where they may be unset
pub by_type : (ty : VariableArrayTy) (a : List ℕ) (p : ℕ) → let v = raw_item ty a p in
    (is_scalable v ≡ can_scale (F.Items ty)) × (is_some (stored_number v) ≡ can_have_null (F.Items ty))
unfolding can_scale can_have_null among bytes
by_type T.L a p = (refl, refl)
by_type T.X a p = (refl, refl)
by_type T.B a p = (refl, refl)
by_type T.I a p = (refl, refl)
by_type T.J a p = (refl, refl)
by_type T.K a p = (refl, refl)
by_type T.A a p = (refl, refl)
by_type T.E a p = (refl, refl)
by_type T.D a p = (refl, refl)
by_type T.C a p = (refl, refl)
by_type T.M a p = (refl, refl)

-- the items of a column, and of its arrays, are of such a type just where the column's numbers may be scaled
pub by_letter : (f : TFormType) (a : List ℕ) (p : ℕ) → is_scalable (raw_item (element f) a p) ≡ can_scale f
unfolding can_scale
by_letter (F.Items ty) a p = (by_type ty a p).0
by_letter (F.P ty) a p = (by_type ty a p).0
by_letter (F.Q ty) a p = (by_type ty a p).0
