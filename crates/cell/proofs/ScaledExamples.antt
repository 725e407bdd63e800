-- Scaled values of some stored ones, worked out: the exact whole numbers, doubles, zeros and NaNs, and where the order of the
-- steps and their two roundings show.
-- Assumes nothing.
use Prim.Native.Nat.{ℕ}
use mathlib.Core.Path.{◌≡◌, refl}
use lib.IntN.{ℤ, pos, neg_ℤ}
use Rattle.std.specs.Float.{binary32, binary64, float_mul_add}
use Rattle.std.specs.Float.Ieee.{add, mul, eq, of_int, of_bits, to_bits}
use Rattle.layout.specs.declared.Scaling.{Scaling}
use Rattle.cell.specs.declared.DataValue.{DataValue}
use Rattle.cell.specs.declared.DataValue.TheVariants as D
use Rattle.cell.specs.Scaled.{scaled_double, shifts_by, scaled_value}

-- the double and the single that some bits are
abbrev double : ℕ → DataValue
double bits = D.Double (of_bits binary64 bits) bits

abbrev single : ℕ → DataValue
single bits = D.Float (of_bits binary32 bits) bits

-- the scaling whose factor and zero some bits are, and the factor 1 with a whole number for its zero
abbrev scaling : ℕ → ℕ → Scaling
scaling f z = record { factor = of_bits binary64 f; zero = of_bits binary64 z }

abbrev plus : ℤ → Scaling
plus z = record { factor = of_bits binary64 0x3ff0000000000000; zero = of_int binary64 z }

-- ---- the exact whole numbers: each type's least and largest stored number

least_byte : scaled_value (plus (neg_ℤ (pos 128))) (D.UnsignedByte 0) ≡ D.Long (neg_ℤ (pos 128))
unfolding shifts_by eq add mul of_bits to_bits of_int
least_byte = refl

largest_byte : scaled_value (plus (neg_ℤ (pos 128))) (D.UnsignedByte 255) ≡ D.Long (pos 127)
unfolding shifts_by eq add mul of_bits to_bits of_int
largest_byte = refl

least_short : scaled_value (plus (pos 32768)) (D.Short (neg_ℤ (pos 32768))) ≡ D.UnsignedLong 0
unfolding shifts_by eq add mul of_bits to_bits of_int
least_short = refl

largest_short : scaled_value (plus (pos 32768)) (D.Short (pos 32767)) ≡ D.UnsignedLong 65535
unfolding shifts_by eq add mul of_bits to_bits of_int
largest_short = refl

least_integer : scaled_value (plus (pos 2147483648)) (D.Integer (neg_ℤ (pos 2147483648))) ≡ D.UnsignedLong 0
unfolding shifts_by eq add mul of_bits to_bits of_int
least_integer = refl

largest_integer : scaled_value (plus (pos 2147483648)) (D.Integer (pos 2147483647)) ≡ D.UnsignedLong 4294967295
unfolding shifts_by eq add mul of_bits to_bits of_int
largest_integer = refl

least_long : scaled_value (plus (pos 9223372036854775808)) (D.Long (neg_ℤ (pos 9223372036854775808))) ≡ D.UnsignedLong 0
unfolding shifts_by eq add mul of_bits to_bits of_int
least_long = refl

largest_long : scaled_value (plus (pos 9223372036854775808)) (D.Long (pos 9223372036854775807)) ≡ D.UnsignedLong 18446744073709551615
unfolding shifts_by eq add mul of_bits to_bits of_int
largest_long = refl

-- ---- any other factor or zero gives a double

-- an I of -3, the factor 2 and the zero 32768: 32762.0
twice_short : scaled_value (scaling 0x4000000000000000 0x40e0000000000000) (D.Short (neg_ℤ (pos 3))) ≡ double 0x40dffe8000000000
unfolding shifts_by eq add mul of_bits to_bits of_int
twice_short = refl

-- an I of -5 with J's zero: 2147483643.0
short_by_zero_of_integer : scaled_value (plus (pos 2147483648)) (D.Short (neg_ℤ (pos 5))) ≡ double 0x41dffffffec00000
unfolding shifts_by eq add mul of_bits to_bits of_int
short_by_zero_of_integer = refl

-- a B of 0 with I's zero: 32768.0
byte_by_zero_of_short : scaled_value (plus (pos 32768)) (D.UnsignedByte 0) ≡ double 0x40e0000000000000
unfolding shifts_by eq add mul of_bits to_bits of_int
byte_by_zero_of_short = refl

-- a B of 200 with the factor 1 and the zero 0: 200.0
byte_plain : scaled_value (plus (pos 0)) (D.UnsignedByte 200) ≡ double 0x4069000000000000
unfolding shifts_by eq add mul of_bits to_bits of_int
byte_plain = refl

-- 2^53 + 1 becomes the nearest double, 2^53
nearest_double : scaled_value (plus (pos 0)) (D.Long (pos 9007199254740993)) ≡ double 0x4340000000000000
unfolding shifts_by eq add mul of_bits to_bits of_int
nearest_double = refl

-- 1.5 with the factor 2 and the zero 0.25: 3.25
single_scaled : scaled_value (scaling 0x4000000000000000 0x3fd0000000000000) (single 0x3fc00000) ≡ double 0x400a000000000000
unfolding shifts_by eq add mul of_bits to_bits of_int
single_scaled = refl

double_scaled : scaled_value (scaling 0x4000000000000000 0x3fd0000000000000) (double 0x3ff8000000000000) ≡ double 0x400a000000000000
unfolding shifts_by eq add mul of_bits to_bits of_int
double_scaled = refl

-- the single nearest to 0.1 is widened as it is
single_tenth : scaled_value (plus (pos 0)) (single 0x3dcccccd) ≡ double 0x3fb99999a0000000
unfolding shifts_by eq add mul of_bits to_bits of_int
single_tenth = refl

-- ---- zeros and NaNs

-- -0.0 plus 0.0 is 0.0
minus_zero_single : scaled_value (plus (pos 0)) (single 0x80000000) ≡ double 0
unfolding shifts_by eq add mul of_bits to_bits of_int
minus_zero_single = refl

minus_zero_double : scaled_value (plus (pos 0)) (double 0x8000000000000000) ≡ double 0
unfolding shifts_by eq add mul of_bits to_bits of_int
minus_zero_double = refl

-- a stored NaN, whatever its sign and its payload
nan_single : scaled_value (plus (pos 0)) (single 0xffc01234) ≡ double 0x7ff8000000000000
unfolding shifts_by eq add mul of_bits to_bits of_int
nan_single = refl

nan_double : scaled_value (plus (pos 0)) (double 0x7ff0000000000001) ≡ double 0x7ff8000000000000
unfolding shifts_by eq add mul of_bits to_bits of_int
nan_double = refl

-- infinity times 0
infinity_by_zero : scaled_value (scaling 0 0) (single 0x7f800000) ≡ double 0x7ff8000000000000
unfolding shifts_by eq add mul of_bits to_bits of_int
infinity_by_zero = refl

-- minus infinity stays
infinity_kept : scaled_value (plus (pos 0)) (single 0xff800000) ≡ double 0xfff0000000000000
unfolding shifts_by eq add mul of_bits to_bits of_int
infinity_kept = refl

-- the largest double times 10^22
too_large : scaled_value (scaling 0x4480f0cf064dd592 0) (double 0x7fefffffffffffff) ≡ double 0x7ff0000000000000
unfolding shifts_by eq add mul of_bits to_bits of_int
too_large = refl

-- ---- the order of the steps and the roundings

-- of `single_scaled` with the sum before the product: 3.5
sum_first : mul binary64 (of_bits binary64 0x4000000000000000) (add binary64 (of_bits binary64 0x3fd0000000000000) (of_bits binary64 0x3ff8000000000000))
    ≡ of_bits binary64 0x400c000000000000
unfolding shifts_by eq add mul of_bits to_bits of_int
sum_first = refl

-- 3 with the factor 0.1 and the zero -0.1: the product is rounded, then the sum. With one rounding for both it is the next
-- lower double
two_roundings : scaled_value (scaling 0x3fb999999999999a 0xbfb999999999999a) (D.Short (pos 3)) ≡ double 0x3fc999999999999b
unfolding shifts_by eq add mul of_bits to_bits of_int
two_roundings = refl

one_rounding : float_mul_add binary64 (of_bits binary64 0x3fb999999999999a) (of_int binary64 (pos 3)) (of_bits binary64 0xbfb999999999999a)
    ≡ of_bits binary64 0x3fc999999999999a
unfolding shifts_by eq add mul of_bits to_bits of_int float_mul_add
one_rounding = refl

-- of `largest_long` with doubles: 2^64 and not 2^64 - 1
long_as_double : scaled_double (plus (pos 9223372036854775808)) (of_int binary64 (pos 9223372036854775807)) ≡ of_bits binary64 0x43f0000000000000
unfolding shifts_by eq add mul of_bits to_bits of_int
long_as_double = refl
