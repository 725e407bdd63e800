-- Signed numbers, bits and values as text (FORMAT.md, section 16).
-- Assumes nothing.
use Rattle.std.specs.Prelude.{ℕ, zero, suc, ◌+◌, ◌/◌, ◌%◌, cond, List, [], ◌∷◌, ◌++◌, ltb, ℤ, pos, negsuc}
use Rattle.ascii.specs.Text.{bytes}
use Rattle.ascii.specs.Number.{decimal_text}
use Rattle.cell.specs.declared.Logical.{Logical}
use Rattle.cell.specs.declared.Logical.TheVariants.{Yes, No, Unset, Odd}
use Rattle.cell.specs.declared.DataValue.{DataValue}
use Rattle.cell.specs.declared.DataValue.TheVariants as D

-- a minus sign (45) before a negative number
abbrev pub signed_text : ℤ → List ℕ
signed_text (pos n) = decimal_text n
signed_text (negsuc n) = 45 ∷ decimal_text (suc n)

-- a hexadecimal digit: 0 to 9, then a to f
abbrev pub hex_digit : ℕ → ℕ
hex_digit d = cond (ltb d 10) (48 + d) (87 + d)

-- the last k hexadecimal digits of n, the highest first
unfoldable pub hex_text : ℕ → ℕ → List ℕ
hex_text zero n = []
hex_text (suc k) n = hex_text k (n / 16) ++ (hex_digit (n % 16) ∷ [])

-- two texts with a space between
abbrev pub two_texts : List ℕ → List ℕ → List ℕ
two_texts s t = s ++ (32 ∷ t)

-- T, F, U, or a question mark (63) and the byte
abbrev pub logical_text : Logical → List ℕ
logical_text Yes = bytes "T"
logical_text No = bytes "F"
logical_text Unset = bytes "U"
logical_text (Odd b) = 63 ∷ decimal_text b

-- the value of a cell: U for an unset one; integers and bytes in decimal, floats as their stored bits in hexadecimal, complex
-- ones as two, a descriptor that is not followed as its count and its offset
abbrev pub value_text : DataValue → List ℕ
value_text D.Unset = bytes "U"
value_text (D.Logical v) = logical_text v
value_text (D.Bit b) = decimal_text b
value_text (D.UnsignedByte b) = decimal_text b
value_text (D.Short z) = signed_text z
value_text (D.Integer z) = signed_text z
value_text (D.Long z) = signed_text z
value_text (D.UnsignedLong n) = decimal_text n
value_text (D.Character b) = decimal_text b
value_text (D.Float v b) = hex_text 8 b
value_text (D.Double v b) = hex_text 16 b
value_text (D.ComplexFloat v b w d) = two_texts (hex_text 8 b) (hex_text 8 d)
value_text (D.ComplexDouble v b w d) = two_texts (hex_text 16 b) (hex_text 16 d)
value_text (D.VariableLengthArray32 n o) = two_texts (decimal_text n) (decimal_text o)
value_text (D.VariableLengthArray64 n o) = two_texts (decimal_text n) (decimal_text o)
