-- The loop of `row_plan`: the bytes and entries of the columns so far, and that the row's entries are all cells if those of the columns that are left are.
use Rattle.std.proofs.Common.{◌≤◌}
use Rattle.walk.proofs.Laws.{from}
use Rattle.table.proofs.Scanned.{Summed}
use Rattle.row.proofs.PlainRow.{AllCells}
use Rattle.row.proofs.plan.row_plan.Given as goal

abbrev pub invariant-loop-c : goal.invariant-loop-c
invariant-loop-c l =
    let r = l.cursor in
    record {
      within : l.c ≤ l.layout.tfields;
      summed : Summed l.layout l.area r.choice r.heap r.row l.c l.at l.cells;
      cells : AllCells (from l.layout l.area r.choice r.heap r.row l.c) → AllCells (from l.layout l.area r.choice r.heap r.row 0);
    }
