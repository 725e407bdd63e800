-- The loop of `store_block`: the block's first p places are where they go.
use Rattle.std.proofs.Common.{◌+◌}
use Rattle.turn.specs.Blocks.{Placed, Kept}
use Rattle.turn.proofs.blocks.store_block.Given as goal

abbrev pub invariant-loop-p : goal.invariant-loop-p
invariant-loop-p l =
    let b = l.block in
    record {
      kept : Kept l.table l.initial.to l.to;
      placed : Placed l.table b.first_row (b.first_row + b.rows) b.first_place (b.first_place + l.p) l.to;
    }
