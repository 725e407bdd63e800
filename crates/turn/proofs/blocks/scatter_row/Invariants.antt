-- The loop of `scatter_row`: the row's bytes at the places before p are where they go.
use Rattle.std.proofs.Common.{◌+◌}
use Rattle.turn.specs.Blocks.{Placed, Kept}
use Rattle.turn.proofs.blocks.scatter_row.Given as goal

abbrev pub invariant-loop-p : goal.invariant-loop-p
invariant-loop-p l =
    record {
      kept : Kept l.table l.initial.to l.to;
      placed : Placed l.table l.row (l.row + 1) l.first l.p l.to;
    }
