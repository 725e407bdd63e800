-- The values of some bits and their texts: halves in both editions, zeros, the widest texts, and what has none.
-- Assumes nothing.
use Prim.Native.Nat.{ℕ}
use mathlib.Core.Path.{◌≡◌, refl}
use mathlib.Core.Bool.{true, false}
use mathlib.Core.List.{List}
use Rattle.std.specs.Prelude.{codes}
use lib.IntN.{negsuc}
use Rattle.std.specs.Float.{fin, binary32}
use Rattle.std.specs.Float.Ieee.{of_bits}
use Rattle.ascii.specs.Number.{decimal_in}
use Rattle.weight.specs.declared.Edition.{Edition}
use Rattle.weight.specs.declared.Edition.TheVariants.{One, Two}
use Rattle.weight.specs.Weight.{units_of, rounded, last_digits, units_text, stars, weight_text}
use Rattle.weight.proofs.Ties.{Tie, tie_away, tie_even}

-- the text of the float that some bits are
abbrev shown : Edition → ℕ → List ℕ
shown ed bits = weight_text ed (of_bits binary32 bits)

-- 80.125
eighth_one : shown One 0x42A04000 ≡ codes "80.1"
unfolding weight_text units_text rounded last_digits decimal_in stars of_bits
eighth_one = refl

eighth_two : shown Two 0x42A04000 ≡ codes "80.12"
unfolding weight_text units_text rounded last_digits decimal_in stars of_bits
eighth_two = refl

-- 80.25, -80.25 and 80.375: halfway
quarter_one : shown One 0x42A08000 ≡ codes "80.3"
unfolding weight_text units_text rounded last_digits decimal_in stars of_bits
quarter_one = refl

minus_quarter_one : shown One 0xC2A08000 ≡ codes "-80.3"
unfolding weight_text units_text rounded last_digits decimal_in stars of_bits
minus_quarter_one = refl

three_eighths_two : shown Two 0x42A0C000 ≡ codes "80.38"
unfolding weight_text units_text rounded last_digits decimal_in stars of_bits
three_eighths_two = refl

-- the float nearest to -0.04, and -0.0: a zero has no minus
rounded_zero : shown One 0xBD23D70A ≡ codes "0.0"
unfolding weight_text units_text rounded last_digits decimal_in stars of_bits
rounded_zero = refl

minus_zero : shown One 0x80000000 ≡ codes "0.0"
unfolding weight_text units_text rounded last_digits decimal_in stars of_bits
minus_zero = refl

minus_zero_two : shown Two 0x80000000 ≡ codes "0.00"
unfolding weight_text units_text rounded last_digits decimal_in stars of_bits
minus_zero_two = refl

-- 99999992, the largest float below 10 ^ 8, and 10 ^ 8
widest_one : shown One 0x4CBEBC1F ≡ codes "99999992.0"
unfolding weight_text units_text rounded last_digits decimal_in stars of_bits
widest_one = refl

wide_two : shown Two 0x4CBEBC1F ≡ stars
unfolding weight_text units_text rounded last_digits decimal_in stars of_bits
wide_two = refl

too_wide_one : shown One 0x4CBEBC20 ≡ stars
unfolding weight_text units_text rounded last_digits decimal_in stars of_bits
too_wide_one = refl

-- below zero, a place less: -9999999 and the next float, -10000000
widest_minus : shown One 0xCB18967F ≡ codes "-9999999.0"
unfolding weight_text units_text rounded last_digits decimal_in stars of_bits
widest_minus = refl

too_wide_minus : shown One 0xCB189680 ≡ stars
unfolding weight_text units_text rounded last_digits decimal_in stars of_bits
too_wide_minus = refl

-- the largest float, a NaN and both infinities
largest : shown One 0x7F7FFFFF ≡ stars
unfolding weight_text units_text rounded last_digits decimal_in stars of_bits
largest = refl

not_a_number : shown One 0x7FC00000 ≡ codes "**********"
unfolding weight_text units_text rounded last_digits decimal_in stars of_bits
not_a_number = refl

infinite : shown One 0x7F800000 ≡ stars
unfolding weight_text units_text rounded last_digits decimal_in stars of_bits
infinite = refl

minus_infinite : shown Two 0xFF800000 ≡ stars
unfolding weight_text units_text rounded last_digits decimal_in stars of_bits
minus_infinite = refl

-- ---- the values of the first ones: `negsuc n` is -(n + 1)

-- 641 / 8, 321 / 4, -321 / 4 and 643 / 8
eighth_value : of_bits binary32 0x42A04000 ≡ fin false 641 (negsuc 2)
unfolding of_bits
eighth_value = refl

quarter_value : of_bits binary32 0x42A08000 ≡ fin false 321 (negsuc 1)
unfolding of_bits
quarter_value = refl

minus_quarter_value : of_bits binary32 0xC2A08000 ≡ fin true 321 (negsuc 1)
unfolding of_bits
minus_quarter_value = refl

three_eighths_value : of_bits binary32 0x42A0C000 ≡ fin false 643 (negsuc 2)
unfolding of_bits
three_eighths_value = refl

-- -5368709 / 2 ^ 27 is a little above -0.04
rounded_zero_value : of_bits binary32 0xBD23D70A ≡ fin true 5368709 (negsuc 26)
unfolding of_bits
rounded_zero_value = refl

-- ---- which of them are halfway, and where they go: 80.25 away from zero, 80.125 down and 80.375 up, to the even one

quarter_tie : Tie One 321 (negsuc 1) 802
quarter_tie = refl

quarter_away : units_of One 321 (negsuc 1) ≡ 803
quarter_away = tie_away 321 (negsuc 1) 802 quarter_tie

eighth_tie : Tie Two 641 (negsuc 2) 8012
eighth_tie = refl

eighth_even : units_of Two 641 (negsuc 2) ≡ 8012
eighth_even = (tie_even 641 (negsuc 2) 8012 eighth_tie).0

three_eighths_tie : Tie Two 643 (negsuc 2) 8037
three_eighths_tie = refl

three_eighths_even : units_of Two 643 (negsuc 2) ≡ 8038
three_eighths_even = (tie_even 643 (negsuc 2) 8037 three_eighths_tie).0
