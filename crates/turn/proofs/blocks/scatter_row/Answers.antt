-- `scatter_row` meets its contract: each byte goes where it goes.
use Rattle.std.proofs.Common.{arith}
use Rattle.turn.proofs.Steps.{scatter_stored}
use Rattle.turn.proofs.blocks.scatter_row.Goals as goal

pub loop-p-preserved : goal.loop-p-preserved
loop-p-preserved c =
    let was = c.loop-p.invariant in
    let s = scatter_stored c.args.table c.loop-p.to c.args.row c.loop-p.p c.requires.row (omega arith) (omega arith)
    c.args.to.now c.args.first was.kept was.placed in
    record { kept = s.0; placed = s.1 }
