-- `fill_page`: the page so far stands at the front of the buffer. The measure is the number of lines left.
use Rattle.std.proofs.Common.{length}
use Rattle.output.specs.Next.{left_in}
use Rattle.output.proofs.Filling.{Filled}
use Rattle.output.proofs.Parts.fill_page.Given as goal

abbrev pub invariant-loop-line : goal.invariant-loop-line
invariant-loop-line l =
    Filled (left_in l.self l.fn.state) (left_in l.self l.current)
    l.fn.out l.out l.len

abbrev pub decreases-loop-line : goal.decreases-loop-line
decreases-loop-line l = length (left_in l.self l.current)
