-- `decimal` meets its contract: the digits are those that the library prints.
use Rattle.std.proofs.Common.{◌∙◌, arith}
use Rattle.ascii.proofs.Printed.{printed}
use Rattle.ascii.proofs.digits.decimal.Goals as goal

pub returns : goal.returns
returns c = c.as_bytes.ensures.value ∙ c.format.ensures.text ∙ printed c.args.n (omega arith)
