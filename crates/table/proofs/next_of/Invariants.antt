-- What the pass says after the columns so far.
use Rattle.std.proofs.Common.{◌≤◌}
use Rattle.table.proofs.Scanned.{Scanned}
use Rattle.table.proofs.next_of.Given as goal

abbrev pub invariant-loop-c : goal.invariant-loop-c
invariant-loop-c l = (l.c ≤ l.layout.tfields) × Scanned l.layout l.area l.cursor.choice l.cursor.heap l.cursor.row l.cursor.passed l.c l.scan
