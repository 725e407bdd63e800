-- One item of the data area and its value (FORMAT.md, section 11; the standard, 7.3.2, 7.3.3 and 5.1 to 5.3).
-- The data area is a list of bytes. A byte past its end counts as 0; no accepted table has an item there.
-- Assumes nothing.
use Rattle.std.specs.Prelude.{ℕ, zero, suc, ◌+◌, ◌*◌, ◌≡◌, Bool, false, cond, List, get_or, eqb, ℤ, pos, Option, Some, None, Float}
use Rattle.std.specs.Ordering.{int_eq}
use Rattle.std.specs.Float.{Format, binary32, binary64}
use Rattle.std.specs.Float.Ieee.{of_bits}
use Rattle.std.specs.Int.{w16, w32, w64}
use Rattle.std.proofs.Common.{to_z}
use Rattle.tform.specs.declared.VariableArrayTy.{VariableArrayTy}
use Rattle.tform.specs.declared.VariableArrayTy.TheVariants as T
use Rattle.tform.specs.Width.{letter_width, letter}
use Rattle.layout.specs.declared.Null.{Null}
use Rattle.layout.specs.declared.Null.TheVariants as N
use Rattle.layout.specs.declared.Column.{Column}
use Rattle.cell.specs.declared.Logical.{Logical}
use Rattle.cell.specs.declared.Logical.TheVariants.{Yes, No, Unset, Odd}
use Rattle.cell.specs.declared.DataValue.{DataValue}
use Rattle.cell.specs.declared.DataValue.TheVariants as D
use Rattle.cell.specs.declared.Cell.{Cell}

-- the unsigned number that the k bytes from place p on hold, the highest byte first
unfoldable pub word : List ℕ → ℕ → ℕ → ℕ
word a p zero = 0
word a p (suc k) = word a p k * 256 + get_or a (p + k) 0

-- the bytes of one item
abbrev pub width : VariableArrayTy → ℕ
width ty = letter_width (letter ty)

-- an L item: T is yes, F is no, 0 is unset, and any other byte is odd
unfoldable pub logical : ℕ → Logical
logical b = cond (eqb b 84) Yes (cond (eqb b 70) No (cond (eqb b 0) Unset (Odd b)))

-- the item at place p as its bytes say it. `to_z` reads bits as two's complement, `of_bits` as an IEEE 754 number
abbrev pub raw_item : VariableArrayTy → List ℕ → ℕ → DataValue
raw_item T.L a p = D.Logical (logical (word a p 1))
raw_item T.X a p = D.Bit (word a p 1)
raw_item T.B a p = D.UnsignedByte (word a p 1)
raw_item T.I a p = D.Short (to_z w16 (word a p 2))
raw_item T.J a p = D.Integer (to_z w32 (word a p 4))
raw_item T.K a p = D.Long (to_z w64 (word a p 8))
raw_item T.A a p = D.Character (word a p 1)
raw_item T.E a p = D.Float (of_bits binary32 (word a p 4)) (word a p 4)
raw_item T.D a p = D.Double (of_bits binary64 (word a p 8)) (word a p 8)
raw_item T.C a p =
    D.ComplexFloat (of_bits binary32 (word a p 4)) (word a p 4) (of_bits binary32 (word a (p + 4) 4)) (word a (p + 4) 4)
raw_item T.M a p =
    D.ComplexDouble (of_bits binary64 (word a p 8)) (word a p 8) (of_bits binary64 (word a (p + 8) 8)) (word a (p + 8) 8)

-- the stored number of a value of B, I, J or K, the types that may have missing values. That of B is unsigned
abbrev pub stored_number : DataValue → Option ℤ
stored_number (D.UnsignedByte n) = Some (pos n)
stored_number (D.Short z) = Some z
stored_number (D.Integer z) = Some z
stored_number (D.Long z) = Some z
stored_number _ = None

-- whether a stored number is the null of its column
abbrev pub is_null : Null → Option ℤ → Bool
is_null n None = false
is_null (N.Number m) (Some z) = int_eq m z
is_null _ (Some z) = false

-- what a column makes of a raw value: the request's term "unset" where its stored number is the column's null, else
-- the raw value itself. The scaled value is made of this one (specs/Scaled)
abbrev pub value_in : Column → DataValue → DataValue
value_in column raw = cond (is_null column.null (stored_number raw)) D.Unset raw

-- the value of the item of a column at place p
unfoldable pub item : Column → VariableArrayTy → List ℕ → ℕ → DataValue
item column ty a p = value_in column (raw_item ty a p)

-- each float of a value is the float of the bits beside it
abbrev pub OfBits : Format → Float → ℕ → Type 0
OfBits f v bits = v ≡ of_bits f bits

abbrev pub BitsKept : DataValue → Type 0
BitsKept D.Unset = Unit {0}
BitsKept (D.Logical v) = Unit {0}
BitsKept (D.Bit v) = Unit {0}
BitsKept (D.UnsignedByte v) = Unit {0}
BitsKept (D.Short v) = Unit {0}
BitsKept (D.Integer v) = Unit {0}
BitsKept (D.Long v) = Unit {0}
BitsKept (D.UnsignedLong v) = Unit {0}
BitsKept (D.Character v) = Unit {0}
BitsKept (D.Float v b) = OfBits binary32 v b
BitsKept (D.Double v b) = OfBits binary64 v b
BitsKept (D.ComplexFloat v b w d) = OfBits binary32 v b × OfBits binary32 w d
BitsKept (D.ComplexDouble v b w d) = OfBits binary64 v b × OfBits binary64 w d
BitsKept (D.VariableLengthArray32 n o) = Unit {0}
BitsKept (D.VariableLengthArray64 n o) = Unit {0}

-- the cell of zeros that a list is filled with before it is lent
abbrev pub blank_cell : Cell
blank_cell = record { row = 0; column = 0; idx = 0; value = D.Bit 0 }
