-- `shifts_by` meets its contract: the literal 1.0 is the double 1.
use Rattle.std.proofs.Common.{◌∙◌, sym, ap, ◌&&◌, Bool}
use Rattle.std.specs.Float.Ieee.{eq, of_bits}
use Rattle.cell.proofs.scaled.shifts_by.Goals as goal

pub returns-then-scaling : goal.returns-then-scaling
unfolding of_bits
returns-then-scaling c = ap (λ (b : Bool). b && eq c.args.scaling.zero c.args.zero) (sym c.if-scaling.true)

pub returns-else-scaling : goal.returns-else-scaling
unfolding of_bits
returns-else-scaling c = c.if-scaling.false ∙ ap (λ (b : Bool). b && eq c.args.scaling.zero c.args.zero) (sym c.if-scaling.false)
