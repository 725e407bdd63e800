-- The plain list of a row of a table.
-- Assumes nothing.
use Rattle.std.specs.Prelude.{List}
use Rattle.walk.specs.declared.Entry.{Entry}
use Rattle.walk.specs.Plain.{row_entries}
use Rattle.table.specs.declared.rows.TableRow.{TableRow}

-- the entries of the row
abbrev pub entries_of : TableRow → List Entry
entries_of r = row_entries r.layout.now r.area.now r.cursor.choice r.cursor.heap r.cursor.row
