-- The loop of `scatter_rows`: the bytes of the rows before `row` are where they go.
use Rattle.turn.specs.Blocks.{Placed, Kept}
use Rattle.turn.proofs.blocks.scatter_rows.Given as goal

abbrev pub invariant-loop-row : goal.invariant-loop-row
invariant-loop-row l =
    record {
      kept : Kept l.table l.initial.to l.to;
      placed : Placed l.table 0 l.row l.first l.end l.to;
    }
