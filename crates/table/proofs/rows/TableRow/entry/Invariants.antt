-- The entry stands among those of the columns that are left, at what is left of the index.
use Rattle.std.proofs.Common.{◌≡◌, ◌<◌, length, get_or}
use Rattle.walk.specs.declared.Entry.TheVariants.{OutsideHeap}
use Rattle.walk.specs.Plain.{row_entries}
use Rattle.walk.proofs.Laws.{from}
use Rattle.table.proofs.Columns.{Over}
use Rattle.table.proofs.rows.TableRow.entry.Given as goal

abbrev pub invariant-loop-c : goal.invariant-loop-c
invariant-loop-c l =
    let u = l.self.cursor in
    let later = from l.self.layout.now l.self.area.now u.choice u.heap u.row l.c-iterator.next in
    record {
      over : Over u.choice l.self.layout.now.tfields l.c-iterator;
      inside : l.left < length later;
      same : get_or (row_entries l.self.layout.now l.self.area.now u.choice u.heap u.row) u.passed (OutsideHeap 0) ≡ get_or later l.left (OutsideHeap 0);
    }
