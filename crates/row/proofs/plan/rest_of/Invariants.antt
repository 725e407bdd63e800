-- The loop of `rest_of`: the cells counted so far and what the columns that are left give are what is left of the row.
use Rattle.table.proofs.Columns.{Over}
use Rattle.row.proofs.Left.{Left}
use Rattle.row.proofs.plan.rest_of.Given as goal

abbrev pub invariant-loop-c : goal.invariant-loop-c
invariant-loop-c l =
    record {
      over : Over l.row.cursor.choice l.row.layout.now.tfields l.c-iterator;
      left : Left l.row.layout.now l.row.area.now l.row.cursor l.total l.skip l.c-iterator.next;
    }
