-- What a reading makes of the result of a plain step: its cells' values scaled, and all else as it is. proofs/Readings shows
-- that a step in either reading comes to this.
-- Assumes nothing.
use Rattle.std.specs.Prelude.{ℕ, Bool, true, false, List, [], ◌∷◌, ◌++◌, map, take, drop}
use Rattle.layout.specs.declared.BinTable.{BinTable}
use Rattle.layout.specs.declared.Scaling.{Scaling}
use Rattle.cell.specs.declared.Cell.{Cell}
use Rattle.cell.specs.declared.DataValue.{DataValue}
use Rattle.cell.specs.Scaled.{scaled_value}
use Rattle.walk.specs.declared.Entry.{Entry}
use Rattle.walk.specs.declared.Entry.TheVariants as E
use Rattle.walk.specs.Plain.{cell_of}
use Rattle.walk.specs.declared.Reading.{Reading}
use Rattle.walk.specs.declared.Reading.TheVariants.{Plain, Scaled}
use Rattle.walk.specs.Scaled.{scaled_cell, scaled_entry, plain}
use Rattle.walk.specs.Walk.{Step, read_cell, read_row, seek, Reply, got_cell, got_row, sought, at_end, refused}
use Rattle.walk.specs.Step.{StepResult}

-- the reading that a choice of the two names
abbrev pub reading_by : Bool → Reading
reading_by false = Plain
reading_by true = Scaled

-- a value in a reading, where the scaling is its column's
abbrev pub value_as : Reading → Scaling → DataValue → DataValue
value_as Plain s v = v
value_as Scaled s v = scaled_value s v

-- an entry in a reading, where the scaling is its column's
abbrev pub entry_by : Reading → Scaling → Entry → Entry
entry_by m s (E.Cell c) = E.Cell (cell_of c.row c.column c.idx (value_as m s c.value))
entry_by m s (E.OutsideHeap k) = E.OutsideHeap k

-- an entry of a layout in a reading
abbrev pub entry_as : BinTable → Reading → Entry → Entry
entry_as l Plain e = e
entry_as l Scaled e = scaled_entry l e

-- the same step as a plain one; a seek has no reading
abbrev pub plainly : Step → Step
plainly (read_cell how) = read_cell plain
plainly (read_row how list) = read_row plain list
plainly (seek r) = seek r

abbrev pub reading_of : Step → Reading
reading_of (read_cell how) = how.reading
reading_of (read_row how list) = how.reading
reading_of (seek r) = Plain

-- an answer with its cell scaled
abbrev pub scaled_reply : BinTable → Reply → Reply
scaled_reply l (got_cell c) = got_cell (scaled_cell l c)
scaled_reply l (got_row k) = got_row k
scaled_reply l sought = sought
scaled_reply l at_end = at_end
scaled_reply l (refused n p) = refused n p

-- how many cells a step stored at the front of the list that it was lent
abbrev pub stored_by : Reply → ℕ
stored_by (got_cell c) = 0
stored_by (got_row k) = k
stored_by sought = 0
stored_by at_end = 0
stored_by (refused n p) = 0

-- the list after a step, with those cells scaled, the rest of it as it was
abbrev pub scaled_list : BinTable → Reply → List Cell → List Cell
scaled_list l y list = map (scaled_cell l) (take (stored_by y) list) ++ drop (stored_by y) list

-- the result of a plain step in a reading: the cursor stays
abbrev pub in_result : BinTable → Reading → StepResult → StepResult
in_result l Plain o = o
in_result l Scaled o = record { reply = scaled_reply l o.reply; cursor = o.cursor; list = scaled_list l o.reply o.list }

-- the results of plain steps, each in the reading of its own step
unfoldable pub in_results : BinTable → List Step → List StepResult → List StepResult
in_results l [] os = []
in_results l (x ∷ xs) [] = []
in_results l (x ∷ xs) (o ∷ os) = in_result l (reading_of x) o ∷ in_results l xs os
