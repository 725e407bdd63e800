-- `fill_items` meets its contract: an item has a byte at least, so the index fits 64 bits where the place does.
use Rattle.std.proofs.Common.{◌+◌, arith}
use Rattle.std.proofs.Math.Nat.{mul-le-mul_left}
use Rattle.cell.proofs.Widths.{width_pos}
use Rattle.row.proofs.fill.fill_items.Goals as goal

pub overflow_add-idx : goal.overflow_add-idx
overflow_add-idx g c =
    omega (arith, c.requires.1 c.loop-i.i c.loop-i-test.true, mul-le-mul_left (c.args.plan.first + c.loop-i.i) (width_pos c.args.ty))
