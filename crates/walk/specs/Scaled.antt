-- The two readings of a row: its plain list, and the same list with each cell's value scaled by its column (FORMAT.md,
-- section 12).
-- Assumes nothing.
use Rattle.std.specs.Prelude.{ℕ, List, map}
use Rattle.layout.specs.declared.BinTable.{BinTable}
use Rattle.cell.specs.declared.Cell.{Cell}
use Rattle.cell.specs.Scaled.{scaled_value}
use Rattle.walk.specs.declared.Entry.{Entry}
use Rattle.walk.specs.declared.Entry.TheVariants as E
use Rattle.walk.specs.declared.Reading.{Reading}
use Rattle.walk.specs.declared.Reading.TheVariants.{Plain, Scaled}
use Rattle.walk.specs.declared.How.{How}
use Rattle.walk.specs.Plain.{column_of, cell_of}

-- a cell with the scaled value of its plain value
abbrev pub scaled_cell : BinTable → Cell → Cell
scaled_cell l c = cell_of c.row c.column c.idx (scaled_value (column_of l c.column).scaling c.value)

-- an entry in the second reading; an array outside the heap is one in both
abbrev pub scaled_entry : BinTable → Entry → Entry
scaled_entry l (E.Cell c) = E.Cell (scaled_cell l c)
scaled_entry l (E.OutsideHeap k) = E.OutsideHeap k

-- a plain read, and one in the second reading
abbrev pub plain : How
plain = record { reading = Plain }

abbrev pub scaled : How
scaled = record { reading = Scaled }

-- the rows in a reading, where `rows r` is the plain list of row r
abbrev pub in_reading : BinTable → Reading → (ℕ → List Entry) → ℕ → List Entry
in_reading l Plain rows r = rows r
in_reading l Scaled rows r = map (scaled_entry l) (rows r)
