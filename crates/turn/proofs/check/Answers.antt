-- `check` meets its contract: the main size and PCOUNT fit 64 bits, by the limits of the layout.
use Rattle.std.proofs.Common.{sym, arith}
use Rattle.layout.proofs.Sizes.{data_bound}
use Rattle.turn.proofs.check.Goals as goal

pub overflow_mul-size : goal.overflow_mul-size
overflow_mul-size c = omega (arith, data_bound c.args.layout (sym c.if-not-layout_ok.ensures))

pub overflow_add-size : goal.overflow_add-size
overflow_add-size c = omega (arith, data_bound c.args.layout (sym c.if-not-layout_ok.ensures))
