-- The rest of the text is what is left to print if and only if the whole text is the whole. The measure is the number
-- of lines left.
use Rattle.std.proofs.Common.{◌≡◌, length}
use Rattle.ascii.specs.Text.{same}
use Rattle.output.specs.State.{left_of}
use Rattle.output.specs.Page.{lines_text}
use Rattle.cases.proofs.compare.same_pages.Given as goal

abbrev pub invariant-loop-page : goal.invariant-loop-page
invariant-loop-page l =
    same l.rest (lines_text (left_of l.source l.current)) ≡ same l.text (lines_text (left_of l.source l.fn.state))

abbrev pub decreases-loop-page : goal.decreases-loop-page
decreases-loop-page l = length (left_of l.source l.current)
