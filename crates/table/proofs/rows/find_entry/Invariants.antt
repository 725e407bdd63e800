-- The next entry from the place so far is that from the cursor's place.
use Rattle.std.proofs.Common.{◌≡◌, ◌-◌}
use Rattle.walk.specs.Plain.{row_entries}
use Rattle.walk.specs.Walk.{next}
use Rattle.table.proofs.rows.find_entry.Given as goal

abbrev pub invariant-loop-row : goal.invariant-loop-row
invariant-loop-row l =
    let u = l.cursor in
    let rows = row_entries l.layout l.area u.choice u.heap in
    next rows l.layout.naxis2 (l.layout.naxis2 - u.row) u.row u.passed ≡ next rows l.layout.naxis2 (l.layout.naxis2 - l.row) l.row l.passed
