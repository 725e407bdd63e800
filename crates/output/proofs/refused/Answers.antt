-- `refused` meets its contract: the scaling of the empty layout's columns is worked out.
use Rattle.std.specs.Float.Ieee.{of_bits}
use Rattle.std.proofs.Common.{rules}
use Rattle.output.proofs.refused.Goals as goal

pub returns-clause-layout : goal.returns-clause-layout
unfolding of_bits
returns-clause-layout c = search rules
