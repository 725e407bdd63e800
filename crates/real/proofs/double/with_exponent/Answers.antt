-- `with_exponent` meets its contract: the power fits, and the exponent is the number that was read.
use Rattle.std.proofs.Common.{arith}
use Rattle.std.proofs.lemmas.Int.{to_z-of_z}
use Rattle.real.proofs.Numbers.{exponent_read}
use Rattle.real.proofs.double.with_exponent.Goals as goal

pub returns : goal.returns
returns c = grind (arith, to_z-of_z, exponent_read)
