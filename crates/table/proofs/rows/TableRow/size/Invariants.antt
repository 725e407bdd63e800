-- The entries counted so far and those of the columns that are left are the row's.
use Rattle.std.proofs.Common.{◌≡◌, ◌+◌, length}
use Rattle.walk.specs.Plain.{row_entries}
use Rattle.walk.proofs.Laws.{from}
use Rattle.table.proofs.Columns.{Over}
use Rattle.table.proofs.rows.TableRow.size.Given as goal

abbrev pub invariant-loop-c : goal.invariant-loop-c
invariant-loop-c l =
    let u = l.self.cursor in
    record {
      over : Over u.choice l.self.layout.now.tfields l.c-iterator;
      counted : l.total + length (from l.self.layout.now l.self.area.now u.choice u.heap u.row l.c-iterator.next) ≡ length (row_entries l.self.layout.now l.self.area.now u.choice u.heap u.row);
    }
