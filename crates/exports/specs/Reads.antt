-- What reads of a table come to, one read after the other from the start: the cells that they hand out, and what ends them.
-- Assumes nothing.
use Rattle.std.specs.Prelude.{ℕ, zero, suc, Bool, true, false, cond, List, [], ◌∷◌, ◌++◌, length, drop, leb}
use Rattle.refusal.specs.Refusal as H
use Rattle.layout.specs.declared.BinTable.{BinTable}
use Rattle.bintable.specs.Entry as B
use Rattle.cell.specs.declared.Cell.{Cell}
use Rattle.walk.specs.declared.Entry.{Entry}
use Rattle.walk.specs.declared.Entry.TheVariants as E
use Rattle.walk.specs.declared.Reading.{Reading}
use Rattle.walk.specs.Plain.{row_entries}
use Rattle.walk.specs.Scaled.{in_reading}
use Rattle.walk.specs.Walk.{Gathered, all_cells, outside, gather, entries_from}
use Rattle.walk.specs.Step.{listed, choice_of, open_with}
use Rattle.exports.specs.Checksum.{checksum, with_number}

-- the cells handed out, and the number of the refusal that ends the reads: 0 if they come to the table's end
pub record CellsRead : Type 0 where
  pub cells : List Cell
  pub number : ℕ

-- no cell and no more reads
abbrev pub ended : ℕ → CellsRead
ended n = record { cells = []; number = n }

-- some cells, and then what later reads come to
abbrev pub and_then : List Cell → CellsRead → CellsRead
and_then cs later = record { cells = cs ++ later.cells; number = later.number }

-- ---- cell reads: the first array that ends past the heap is a 13

unfoldable pub cell_reads : List Entry → CellsRead
cell_reads [] = ended 0
cell_reads (E.Cell c ∷ es) = and_then (c ∷ []) (cell_reads es)
cell_reads (E.OutsideHeap k ∷ es) = ended 13

-- ---- row reads into a list of m cells: a row with such an array is a 13, one with more than m cells a 14

-- how many cells the list of this crate takes
abbrev pub list_length : ℕ
list_length = 512

abbrev pub row_then : ℕ → Gathered → CellsRead → CellsRead
row_then m (all_cells cs) later = cond (leb (length cs) m) (and_then cs later) (ended 14)
row_then m (outside k) later = ended 13

-- of k rows from the place r, p on
unfoldable pub row_reads : ℕ → (ℕ → List Entry) → ℕ → ℕ → ℕ → CellsRead
row_reads m rows zero r p = ended 0
row_reads m rows (suc k) r p = row_then m (gather (drop p (rows r))) (row_reads m rows k (suc r) 0)

-- ---- a way to read: what it comes to over the rows, n of them, from a table's start

abbrev pub Way : Type 0
Way = (ℕ → List Entry) → ℕ → CellsRead

abbrev pub by_cells : Way
by_cells rows n = cell_reads (entries_from rows n 0 n)

abbrev pub by_rows : ℕ → Way
by_rows m rows n = row_reads m rows n 0 0

-- reads of the chosen columns in a reading, by what opening and the entry come to: a refusal of one of them ends them before the first
abbrev pub opened_reads : Way → BinTable → List ℕ → List ℕ → Bool → Reading → H.Outcome → CellsRead
opened_reads way l a cols heap m H.accepted = way (in_reading l m (row_entries l a (choice_of l (listed cols)) heap)) l.naxis2
opened_reads way l a cols heap m (H.refused n p) = ended n

abbrev pub entry_reads : Way → List ℕ → List ℕ → Bool → Reading → B.Entry → CellsRead
entry_reads way a cols heap m (B.accepted l) = opened_reads way l a cols heap m (open_with l a (listed cols) heap).outcome
entry_reads way a cols heap m (B.refused n p) = ended n

abbrev pub table_reads : Way → List ℕ → List ℕ → List ℕ → Bool → Reading → CellsRead
table_reads way h a cols heap m = entry_reads way a cols heap m (B.entry h a)

-- ---- what a sum returns: the number, above the checksum of the cells

abbrev pub reads_sum : CellsRead → ℕ
reads_sum o = with_number o.number (checksum o.cells)
