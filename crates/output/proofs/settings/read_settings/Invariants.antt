-- `read_settings`: what is set so far and the lines from the place on stand for all of them.
use Rattle.std.proofs.Common.{length, ◌-◌}
use Rattle.output.specs.Settings.{Reading}
use Rattle.output.proofs.settings.read_settings.Given as goal

abbrev pub invariant-loop-next : goal.invariant-loop-next
invariant-loop-next l = Reading l.steps l.settings

abbrev pub decreases-loop-next : goal.decreases-loop-next
decreases-loop-next l = length l.steps - l.settings.at
