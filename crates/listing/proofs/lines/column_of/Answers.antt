-- `column_of` meets its contract: of no column the scaling is worked out.
use Rattle.std.specs.Float.Ieee.{of_bits}
use Rattle.std.proofs.Common.{rules}
use Rattle.listing.proofs.lines.column_of.Goals as goal

pub returns : goal.returns
unfolding of_bits
returns c = search rules
