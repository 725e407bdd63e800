-- The scaled value of a cell: the zero plus the factor times the stored number (FORMAT.md, section 11; the standard,
-- 7.3.2, TSCALn and TZEROn).
-- Assumes nothing.
use Rattle.std.specs.Prelude.{ℕ, Bool, ◌&&◌, cond, ℤ, pos, neg_ℤ, ◌+ℤ◌, nat_abs}
use Rattle.std.specs.Float.{Float, float_one, binary64}
use Rattle.std.specs.Float.Ieee.{add, mul, eq, of_int, to_bits}
use Rattle.layout.specs.declared.Scaling.{Scaling}
use Rattle.cell.specs.declared.DataValue.{DataValue}
use Rattle.cell.specs.declared.DataValue.TheVariants as D

-- the zero plus the factor times a number: the product is rounded once and the sum once
abbrev pub scaled_double : Scaling → Float → Float
scaled_double s x = add binary64 s.zero (mul binary64 s.factor x)

-- a double beside its bits. Those of a NaN are 7FF8000000000000 (hex): proofs/ScaledLaws
abbrev pub double_of : Float → DataValue
double_of x = D.Double x (to_bits binary64 x)

-- a stored whole number, as the nearest double, and scaled
abbrev pub scaled_whole : Scaling → ℤ → DataValue
scaled_whole s z = double_of (scaled_double s (of_int binary64 z))

-- the factor is 1 and the zero is this whole number, which a double holds
unfoldable pub shifts_by : ℤ → Scaling → Bool
shifts_by z s = eq s.factor float_one && eq s.zero (of_int binary64 z)

-- with the factor 1 and this zero, half the range, the exact sum, which is 0 or more, of a stored whole number and the zero
abbrev pub unsigned_or : ℕ → Scaling → ℤ → DataValue
unsigned_or half s z = cond (shifts_by (pos half) s) (D.UnsignedLong (nat_abs (z +ℤ pos half))) (scaled_whole s z)

-- the scaled value of a plain value. A value of another type, an unset one, or a descriptor, is as in the plain reading
abbrev pub scaled_value : Scaling → DataValue → DataValue
scaled_value s D.Unset = D.Unset
scaled_value s (D.Logical v) = D.Logical v
scaled_value s (D.Bit n) = D.Bit n
scaled_value s (D.UnsignedByte n) =
    cond (shifts_by (neg_ℤ (pos 128)) s) (D.Long (pos n +ℤ neg_ℤ (pos 128))) (scaled_whole s (pos n))
scaled_value s (D.Short z) = unsigned_or 32768 s z
scaled_value s (D.Integer z) = unsigned_or 2147483648 s z
scaled_value s (D.Long z) = unsigned_or 9223372036854775808 s z
scaled_value s (D.UnsignedLong n) = D.UnsignedLong n
scaled_value s (D.Character n) = D.Character n
scaled_value s (D.Float x bits) = double_of (scaled_double s x)
scaled_value s (D.Double x bits) = double_of (scaled_double s x)
scaled_value s (D.ComplexFloat x b y c) = D.ComplexFloat x b y c
scaled_value s (D.ComplexDouble x b y c) = D.ComplexDouble x b y c
scaled_value s (D.VariableLengthArray32 n o) = D.VariableLengthArray32 n o
scaled_value s (D.VariableLengthArray64 n o) = D.VariableLengthArray64 n o
