-- The loop of `turn_band`: the places before `first_place` are where they go.
use Rattle.std.proofs.Common.{◌+◌, ◌-◌}
use Rattle.turn.specs.Blocks.{Placed, Kept}
use Rattle.turn.proofs.blocks.turn_band.Given as goal

abbrev pub invariant-loop-first_place : goal.invariant-loop-first_place
invariant-loop-first_place l =
    record {
      kept : Kept l.table l.initial.to l.to;
      placed : Placed l.table l.first_row (l.first_row + l.rows) 0 l.first_place l.to;
    }

abbrev pub decreases-loop-first_place : goal.decreases-loop-first_place
decreases-loop-first_place l = l.width - l.first_place
