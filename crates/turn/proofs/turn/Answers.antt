-- `turn` meets its contract: what is accepted fits.
use Rattle.std.proofs.Common.{sym, arith}
use Rattle.turn.proofs.Calls.{accepted_is}
use Rattle.turn.proofs.turn.Goals as goal

pub copy_turned-requires-clause-inside : goal.copy_turned-requires-clause-inside
copy_turned-requires-clause-inside c =
    omega (arith, accepted_is c.args.layout c.args.from.now c.args.to.now (sym c.in_ok-check.ensures))

pub copy_turned-requires-clause-same : goal.copy_turned-requires-clause-same
copy_turned-requires-clause-same c =
    (accepted_is c.args.layout c.args.from.now c.args.to.now (sym c.in_ok-check.ensures)).1
