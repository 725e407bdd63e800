-- A narrow choice beside all columns: a plain list with the entries of some columns struck out (FORMAT.md, section
-- 12), and the cells that cell reads of a list hand out (section 13).
-- Assumes nothing.
use Rattle.std.specs.Prelude.{ℕ, Bool, cond, List, [], ◌∷◌, filter, flat_map}
use Rattle.cell.specs.declared.Cell.{Cell}
use Rattle.walk.specs.declared.Entry.{Entry}
use Rattle.walk.specs.declared.Entry.TheVariants as E
use Rattle.walk.specs.Walk.{Reply, got_cell, got_row, sought, at_end, refused}

-- the column of an entry
abbrev pub entry_column : Entry → ℕ
entry_column (E.Cell x) = x.column
entry_column (E.OutsideHeap k) = k

-- the request's term "struck out": some entries without those of the columns that do not pass a test. The others stay,
-- 13s too, in their order
abbrev pub struck : (ℕ → Bool) → List Entry → List Entry
struck keep es = filter (λ (e : Entry). keep (entry_column e)) es

-- the same of cells
abbrev pub struck_cells : (ℕ → Bool) → List Cell → List Cell
struck_cells keep xs = filter (λ (x : Cell). keep x.column) xs

-- the cell that an answer has; those of a row read stand in its list
abbrev pub cell_answered : Reply → List Cell
cell_answered (got_cell x) = x ∷ []
cell_answered (got_row k) = []
cell_answered sought = []
cell_answered at_end = []
cell_answered (refused n p) = []

-- the cells among some answers, in their order
abbrev pub cells_in : List Reply → List Cell
cells_in ys = flat_map cell_answered ys

-- the cells before the first 13 of some entries
unfoldable pub cells_before_13 : List Entry → List Cell
cells_before_13 [] = []
cells_before_13 (E.Cell x ∷ es) = x ∷ cells_before_13 es
cells_before_13 (E.OutsideHeap k ∷ es) = []

-- the entries behind the first 13, where that one is struck out; none where it stays, or where there is no 13
unfoldable pub behind_13 : (ℕ → Bool) → List Entry → List Entry
behind_13 keep [] = []
behind_13 keep (E.Cell x ∷ es) = behind_13 keep es
behind_13 keep (E.OutsideHeap k ∷ es) = cond (keep k) [] es
