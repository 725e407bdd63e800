-- The checksum of cells and of a layout: words of 32 bits, one after the other.
-- Assumes nothing.
use Rattle.std.specs.Prelude.{ℕ, zero, suc, ◌+◌, ◌*◌, ◌/◌, ◌%◌, ◌^◌, List, [], ◌∷◌, ◌++◌, length}
use Rattle.std.specs.Int.{w16, w32, w64}
use Rattle.std.proofs.Common.{of_z}
use Rattle.tform.specs.declared.TFormType.{TFormType}
use Rattle.tform.specs.declared.TFormType.TheVariants.{Items, P, Q}
use Rattle.tform.specs.Width.{letter, form_letter}
use Rattle.layout.specs.declared.BinTable.{BinTable}
use Rattle.layout.specs.Names.{column_name}
use Rattle.bintable.specs.Entry as B
use Rattle.cell.specs.declared.Logical.{Logical}
use Rattle.cell.specs.declared.Logical.TheVariants as L
use Rattle.cell.specs.declared.DataValue.{DataValue}
use Rattle.cell.specs.declared.DataValue.TheVariants as D
use Rattle.cell.specs.declared.Cell.{Cell}
use Rattle.walk.specs.Plain.{column_of}

-- a sum with one more word, or number
abbrev pub add_word : ℕ → ℕ → ℕ
add_word s w = (s * 31 + w) % 2 ^ 32

unfoldable pub add_words : ℕ → List ℕ → ℕ
add_words s [] = s
add_words s (w ∷ ws) = add_words (add_word s w) ws

-- a number of 64 bits: the high word, then the low one
abbrev pub two : ℕ → List ℕ
two n = n / 2 ^ 32 ∷ n % 2 ^ 32 ∷ []

abbrev pub logical_byte : Logical → ℕ
logical_byte L.Yes = 84
logical_byte L.No = 70
logical_byte L.Unset = 0
logical_byte (L.Odd b) = b

-- the words of a value's bits; an unset one has none
abbrev pub words : DataValue → List ℕ
words D.Unset = []
words (D.Logical v) = logical_byte v ∷ []
words (D.Bit b) = b ∷ []
words (D.UnsignedByte b) = b ∷ []
words (D.Short n) = of_z w16 n ∷ []
words (D.Integer n) = of_z w32 n ∷ []
words (D.Long n) = two (of_z w64 n)
words (D.UnsignedLong n) = two n
words (D.Character b) = b ∷ []
words (D.Float v bits) = bits ∷ []
words (D.Double v bits) = two bits
words (D.ComplexFloat r real i imag) = real ∷ imag ∷ []
words (D.ComplexDouble r real i imag) = two real ++ two imag
words (D.VariableLengthArray32 n at) = n ∷ at ∷ []
words (D.VariableLengthArray64 n at) = two n ++ two at

-- those of a cell: where it stands, then its value
abbrev pub cell_words : Cell → List ℕ
cell_words c = c.row ∷ c.column ∷ c.idx ∷ words c.value

abbrev pub add_cell : ℕ → Cell → ℕ
add_cell s c = add_words s (cell_words c)

-- a sum with the words of some cells
unfoldable pub add_cells : ℕ → List Cell → ℕ
add_cells s [] = s
add_cells s (c ∷ cs) = add_cells (add_cell s c) cs

abbrev pub checksum : List Cell → ℕ
checksum cs = add_cells 0 cs

-- the letter of a descriptor's elements; 0 for items, which have the form's letter
abbrev pub element_letter : TFormType → ℕ
element_letter (Items e) = 0
element_letter (P e) = letter e
element_letter (Q e) = letter e

-- the words of column c: its letters, count and start, and how long its name is, with the name's bytes as the header has them
unfoldable pub column_words : List ℕ → BinTable → ℕ → List ℕ
column_words h l c =
    let column = column_of l c in let name = column_name h l c in
    form_letter column.form ∷ element_letter column.form ∷ column.count ∷ column.start ∷ length name ∷ name

-- of n columns from column c on
unfoldable pub columns_words : List ℕ → BinTable → ℕ → ℕ → List ℕ
columns_words h l c zero = []
columns_words h l c (suc n) = column_words h l c ++ columns_words h l (suc c) n

-- the sizes of a layout, then its columns
unfoldable pub layout_sum : List ℕ → BinTable → ℕ
layout_sum h l = add_words 0 (l.naxis1 ∷ l.naxis2 ∷ l.pcount ∷ l.theap ∷ l.tfields ∷ columns_words h l 0 l.tfields)

-- what is returned: the number of a refusal, 0 if there is none, above a sum
abbrev pub with_number : ℕ → ℕ → ℕ
with_number n s = n * 2 ^ 32 + s

-- of the layout that the entry returns; the number of a refusal, above a sum of 0
abbrev pub entry_sum : List ℕ → B.Entry → ℕ
entry_sum h (B.accepted l) = with_number 0 (layout_sum h l)
entry_sum h (B.refused n p) = with_number n 0
