-- The loop of `turn_few`: the places before `first_place` are where they go.
use Rattle.std.proofs.Common.{◌-◌}
use Rattle.turn.specs.Blocks.{Placed}
use Rattle.turn.proofs.blocks.turn_few.Given as goal

abbrev pub invariant-loop-first_place : goal.invariant-loop-first_place
invariant-loop-first_place l = Placed l.table 0 l.table.rows 0 l.first_place l.to

abbrev pub decreases-loop-first_place : goal.decreases-loop-first_place
decreases-loop-first_place l = l.table.width - l.first_place
