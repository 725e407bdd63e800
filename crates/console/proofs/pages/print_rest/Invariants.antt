-- The loop ends: the measure is the number of lines left.
use Rattle.std.proofs.Common.{length}
use Rattle.output.specs.State.{left_of}
use Rattle.console.proofs.pages.print_rest.Given as goal

abbrev pub decreases-loop-page : goal.decreases-loop-page
decreases-loop-page l = length (left_of l.source l.current)
