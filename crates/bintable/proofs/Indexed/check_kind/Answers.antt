-- `check_kind` meets its contract: what is asked of XTENSION's value names the header.
use Rattle.std.proofs.Common.{rules}
use Rattle.bintable.specs.Checks.{first_refusal}
use Rattle.bintable.specs.Entry.{nine}
use Rattle.bintable.proofs.Indexed.check_kind.Goals as goal

pub returns : goal.returns
unfolding nine first_refusal
returns c = let e = rw (c.find.ensures.header, c.find.ensures.number) at c.check_xtension.ensures in search (rules, e)
