-- The list after the columns that are left is the list after all of them.
use Rattle.std.proofs.Common.{◌≡◌, ◌-◌, length}
use Rattle.table.proofs.Columns.{Over}
use denote.Param.{number}
use Rattle.walk.specs.Readings.{reading_by}
use Rattle.row.specs.contracts.fill.fill_row.{SCALED-type}
use Rattle.row.specs.Plan.{filled, RowFits}
use Rattle.row.proofs.fill.fill_row.Given as goal

abbrev pub invariant-loop-c : goal.invariant-loop-c
invariant-loop-c g l =
    let p = l.plan in
    let c = l.c-iterator.next in
    record {
      over : Over p.cursor.choice p.tfields l.c-iterator;
      same : filled l.columns l.area p (reading_by (SCALED-type (number g.row.SCALED))) c (p.tfields - c) l.skip l.at l.list ≡ filled l.columns l.area p (reading_by (SCALED-type (number g.row.SCALED))) 0 p.tfields p.cursor.passed 0 l.initial.list;
      fits : RowFits l.columns l.area p c (p.tfields - c) l.skip l.at (length l.initial.list);
    }
