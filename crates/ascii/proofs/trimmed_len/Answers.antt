-- `trimmed_len` meets its contract: after the last other byte stand spaces alone, or in all of the text.
use Rattle.std.proofs.Common.{rules}
use Rattle.ascii.proofs.Library.{trimmed_last, trimmed_away}
use Rattle.ascii.proofs.trimmed_len.Goals as goal

pub returns-in-Some : goal.returns-in-Some
returns-in-Some c = trimmed_last c.args.s.now c.in-Some.last (search rules) (search rules) (search rules)

pub returns-in-None : goal.returns-in-None
returns-in-None c = trimmed_away c.args.s.now (search rules)
