-- The lines that `cells` and `replay` print (FORMAT.md, sections 16 and 17).
-- Assumes nothing.
use Rattle.std.specs.Prelude.{ℕ, cond, List, [], ◌∷◌, ◌++◌, length, eqb}
use Rattle.ascii.specs.Text.{bytes}
use Rattle.tform.specs.Width.{form_letter}
use Rattle.layout.specs.declared.BinTable.{BinTable}
use Rattle.layout.specs.Names.{column_name}
use Rattle.refusal.specs.Refusal.{number_of, place_of}
use Rattle.cell.specs.declared.Cell.{Cell}
use Rattle.walk.specs.declared.TableData.{TableData}
use Rattle.walk.specs.Plain.{column_of}
use Rattle.listing.specs.declared.Line.{Line}
use Rattle.listing.specs.declared.Line.TheVariants as L
use Rattle.ascii.specs.Number.{decimal_text}
use Rattle.listing.specs.Text.{value_text}

-- words with one space (32) between each two, and a line feed (10) after the last
unfoldable pub line : List (List ℕ) → List ℕ
line [] = 10 ∷ []
line (w ∷ []) = w ++ (10 ∷ [])
line (w ∷ v ∷ vs) = w ++ (32 ∷ line (v ∷ vs))

-- the columns, NAXIS2 and NAXIS1
unfoldable pub table_line : BinTable → List ℕ
table_line l =
    line
    (bytes "table" ∷ decimal_text l.tfields ∷ bytes "columns" ∷ decimal_text l.naxis2 ∷ bytes "rows" ∷ decimal_text l.naxis1 ∷ bytes "bytes" ∷ [])

-- a name as it is shown: a dash for an empty one
abbrev pub shown_name : List ℕ → List ℕ
shown_name n = cond (eqb (length n) 0) (bytes "-") n

-- the index of a column, its form's letter, its count, its start and its name, which is a part of the header
unfoldable pub column_line : List ℕ → BinTable → ℕ → List ℕ
column_line h l c =
    let x = column_of l c in
    line
    (bytes "column" ∷ decimal_text c ∷ (form_letter x.form ∷ []) ∷ decimal_text x.count ∷ bytes "at" ∷ decimal_text x.start ∷ shown_name (column_name h l c) ∷ [])

-- the row, the column and the index of a cell, and its value
unfoldable pub cell_line : Cell → List ℕ
cell_line x = line (bytes "cell" ∷ decimal_text x.row ∷ decimal_text x.column ∷ decimal_text x.idx ∷ value_text x.value ∷ [])

-- the end of `cells`, with the number of cells shown
unfoldable pub end_line : ℕ → List ℕ
end_line n = line (bytes "end" ∷ decimal_text n ∷ [])

-- the number and the place of a refusal
unfoldable pub refused_line : ℕ → ℕ → List ℕ
refused_line n p = line (bytes "refused" ∷ decimal_text n ∷ decimal_text p ∷ [])

-- ---- those of `replay` alone

-- the number of cells of a row read
unfoldable pub row_line : ℕ → List ℕ
row_line k = line (bytes "row" ∷ decimal_text k ∷ [])

-- the row that was sought
unfoldable pub seek_line : ℕ → List ℕ
seek_line r = line (bytes "seek" ∷ decimal_text r ∷ [])

-- the answer of a step at the end
unfoldable pub at_end_line : List ℕ
at_end_line = line (bytes "end" ∷ [])

-- the cursor's row, the entries passed in it, and its count
unfoldable pub at_line : TableData → List ℕ
at_line c = line (bytes "at" ∷ decimal_text c.row ∷ decimal_text c.passed ∷ decimal_text c.count ∷ [])

-- a line of the steps that says no step, by its number
unfoldable pub bad_line : ℕ → List ℕ
bad_line n = line (bytes "bad" ∷ bytes "line" ∷ decimal_text n ∷ [])

-- ---- a line of the code

-- its text, with the header and the layout that it speaks of
abbrev pub line_text : List ℕ → BinTable → Line → List ℕ
line_text h l L.Table = table_line l
line_text h l (L.Column c) = column_line h l c
line_text h l (L.Cell x) = cell_line x
line_text h l (L.End n) = end_line n
line_text h l (L.Refused r) = refused_line (number_of r) (place_of r)
line_text h l (L.Row k) = row_line k
line_text h l (L.Seek r) = seek_line r
line_text h l L.AtEnd = at_end_line
line_text h l (L.At c) = at_line c
line_text h l (L.BadLine n) = bad_line n
