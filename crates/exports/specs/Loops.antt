-- What the loops over a table go by: what reads from a cursor on come to, and what one read says of it. Only contracts of private functions cite it.
-- Assumes nothing.
use Rattle.std.specs.Prelude.{ℕ, ◌-◌, Bool, true, false, cond, List, Result, Ok, Err}
use Rattle.refusal.specs.declared.Refusal.{Refusal}
use Rattle.refusal.specs.Refusal.{number_of}
use Rattle.layout.specs.declared.BinTable.{BinTable}
use Rattle.walk.specs.declared.TableData.{TableData}
use Rattle.walk.specs.declared.Reading.{Reading}
use Rattle.walk.specs.declared.Entry.{Entry}
use Rattle.walk.specs.Plain.{row_entries}
use Rattle.walk.specs.Scaled.{in_reading}
use Rattle.walk.specs.Walk.{Reply, got_cell, got_row, sought, at_end, refused, entries_left}
use Rattle.walk.specs.Step.{belongs}
use Rattle.exports.specs.Checksum.{add_cells, with_number}
use Rattle.exports.specs.Reads.{CellsRead, ended, cell_reads, row_reads}

-- ---- reads from a cursor on, in a reading: a 10, if it does not belong

-- the rows that a cursor reads
abbrev pub rows_in : BinTable → List ℕ → Reading → TableData → ℕ → List Entry
rows_in l a m c = in_reading l m (row_entries l a c.choice c.heap)

unfoldable pub cells_from : BinTable → List ℕ → Reading → TableData → CellsRead
cells_from l a m c =
    cond (belongs l a c) (cell_reads (entries_left (rows_in l a m c) l.naxis2 (l.naxis2 - c.row) c.row c.passed)) (ended 10)

abbrev pub rows_from : ℕ → BinTable → List ℕ → Reading → TableData → CellsRead
rows_from n l a m c = cond (belongs l a c) (row_reads n (rows_in l a m c) (l.naxis2 - c.row) c.row c.passed) (ended 10)

-- what a sum so far returns with them
abbrev pub sum_then : ℕ → CellsRead → ℕ
sum_then s o = with_number o.number (add_cells s o.cells)

-- ---- by an answer: the number of a refusal, 0 for any other; whether a row read stored a row

abbrev pub number_by : Reply → ℕ
number_by (got_cell c) = 0
number_by (got_row k) = 0
number_by sought = 0
number_by at_end = 0
number_by (refused n p) = n

abbrev pub row_by : Reply → Bool
row_by (got_cell c) = false
row_by (got_row k) = true
row_by sought = false
row_by at_end = false
row_by (refused n p) = false

-- of an answer of the code's
abbrev pub number_in : {A : Type 0} → Result A Refusal → ℕ
number_in (Ok x) = 0
number_in (Err r) = number_of r
