-- `read_scaling` meets its contract: without the two keywords the factor is 1 and the zero 0.
use Rattle.std.specs.Float.Ieee.{of_bits}
use Rattle.std.proofs.Common.{◌+◌, sym, ◌∙◌}
use Rattle.bintable.proofs.Scaled.{none_given}
use Rattle.bintable.proofs.Indexed.read_scaling.Goals as goal

pub returns-then-not-scaling_given-clause-scaling : goal.returns-then-not-scaling_given-clause-scaling
unfolding of_bits
returns-then-not-scaling_given-clause-scaling c =
    none_given c.args.self.now.header.now (c.args.i + 1) (sym c.scaling_given.ensures ∙ c.if-not-scaling_given.true)
