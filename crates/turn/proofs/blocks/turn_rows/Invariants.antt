-- The loop of `turn_rows`: the rows before `first_row` are where they go.
use Rattle.std.proofs.Common.{◌-◌}
use Rattle.turn.specs.Blocks.{Placed}
use Rattle.turn.proofs.blocks.turn_rows.Given as goal

abbrev pub invariant-loop-first_row : goal.invariant-loop-first_row
invariant-loop-first_row l = Placed l.table 0 l.first_row 0 l.table.width l.to

abbrev pub decreases-loop-first_row : goal.decreases-loop-first_row
decreases-loop-first_row l = l.rows - l.first_row
