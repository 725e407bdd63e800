-- Texts and what is read of them. A double is given by its bits.
-- Assumes nothing.
use Prim.Native.Nat.{ℕ}
use mathlib.Core.Path.{◌≡◌, refl}
use Rattle.std.specs.Prelude.{Option, Some, None, codes}
use Rattle.std.specs.Float.{Float, binary64}
use Rattle.std.specs.Float.Ieee.{round, of_bits}
use Rattle.ascii.specs.Text.{front, decimal}
use Rattle.card.specs.Ends.{follows}
use Rattle.real.specs.Real.{nearest, with_exponent, without_exponent, unsigned, real_of}

abbrev double : ℕ → Option Float
double bits = Some (of_bits binary64 bits)

one : real_of (codes "1") ≡ double 0x3FF0000000000000
unfolding front decimal follows nearest with_exponent without_exponent unsigned round of_bits
one = refl

minus_128 : real_of (codes "-128") ≡ double 0xC060000000000000
unfolding front decimal follows nearest with_exponent without_exponent unsigned round of_bits
minus_128 = refl

tenth : real_of (codes "0.1") ≡ double 0x3FB999999999999A
unfolding front decimal follows nearest with_exponent without_exponent unsigned round of_bits
tenth = refl

least_power : real_of (codes "1.E-22") ≡ double 0x3B5E392010175EE6
unfolding front decimal follows nearest with_exponent without_exponent unsigned round of_bits
least_power = refl

most_digits : real_of (codes "123456789012345D+22 / comment") ≡ double 0x476DB89CAFCCD3A9
unfolding front decimal follows nearest with_exponent without_exponent unsigned round of_bits
most_digits = refl

sixteen_digits : real_of (codes "1234567890123456") ≡ None
unfolding front decimal follows nearest with_exponent without_exponent unsigned round of_bits
sixteen_digits = refl

-- 0 has no minus
minus_zero : real_of (codes "-0") ≡ double 0x0000000000000000
unfolding front decimal follows nearest with_exponent without_exponent unsigned round of_bits
minus_zero = refl

-- the zero of an unsigned 64-bit column, with either sign; with a point it has too many digits
two_to_63 : real_of (codes "9223372036854775808") ≡ double 0x43E0000000000000
unfolding front decimal follows nearest with_exponent without_exponent unsigned round of_bits
two_to_63 = refl

minus_two_to_63 : real_of (codes "-9223372036854775808") ≡ double 0xC3E0000000000000
unfolding front decimal follows nearest with_exponent without_exponent unsigned round of_bits
minus_two_to_63 = refl

two_to_63_point : real_of (codes "9223372036854775808.") ≡ None
unfolding front decimal follows nearest with_exponent without_exponent unsigned round of_bits
two_to_63_point = refl

-- a power out of the limits, also of 0
zero_e30 : real_of (codes "0E30") ≡ None
unfolding front decimal follows nearest with_exponent without_exponent unsigned round of_bits
zero_e30 = refl

half : real_of (codes ".5") ≡ double 0x3FE0000000000000
unfolding front decimal follows nearest with_exponent without_exponent unsigned round of_bits
half = refl

point : real_of (codes ".") ≡ None
unfolding front decimal follows nearest with_exponent without_exponent unsigned round of_bits
point = refl

small_letter : real_of (codes "3.3e2") ≡ None
unfolding front decimal follows nearest with_exponent without_exponent unsigned round of_bits
small_letter = refl

-- leading zeros count nowhere
leading_zeros : real_of (codes "000000000000000000.001E0000000000000003") ≡ double 0x3FF0000000000000
unfolding front decimal follows nearest with_exponent without_exponent unsigned round of_bits
leading_zeros = refl

power_23 : real_of (codes "1E23") ≡ None
unfolding front decimal follows nearest with_exponent without_exponent unsigned round of_bits
power_23 = refl

power_22 : real_of (codes "1E22") ≡ double 0x4480F0CF064DD592
unfolding front decimal follows nearest with_exponent without_exponent unsigned round of_bits
power_22 = refl

no_digits : real_of (codes "E5") ≡ None
unfolding front decimal follows nearest with_exponent without_exponent unsigned round of_bits
no_digits = refl

space_after_sign : real_of (codes "+ 1") ≡ None
unfolding front decimal follows nearest with_exponent without_exponent unsigned round of_bits
space_after_sign = refl

text_after : real_of (codes "1 x") ≡ None
unfolding front decimal follows nearest with_exponent without_exponent unsigned round of_bits
text_after = refl

no_exponent_digits : real_of (codes "1E") ≡ None
unfolding front decimal follows nearest with_exponent without_exponent unsigned round of_bits
no_exponent_digits = refl

empty : real_of (codes "") ≡ None
unfolding front decimal follows nearest with_exponent without_exponent unsigned round of_bits
empty = refl
