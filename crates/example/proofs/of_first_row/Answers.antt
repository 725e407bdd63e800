-- `of_first_row` meets its contract: the scaling of the empty layout's columns is worked out.
use Rattle.std.specs.Float.Ieee.{of_bits}
use Rattle.std.proofs.Common.{rules}
use Rattle.example.proofs.of_first_row.Goals as goal

pub returns-clause-step : goal.returns-clause-step
unfolding of_bits
returns-clause-step c = search rules

pub returns-clause-cell : goal.returns-clause-cell
unfolding of_bits
returns-clause-cell c = search rules
