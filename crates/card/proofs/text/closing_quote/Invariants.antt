-- The loop of `closing_quote`: what is left, in which the same quote closes.
use Rattle.std.proofs.Common.{length}
use Rattle.card.proofs.Closing.{Left}
use Rattle.card.proofs.text.closing_quote.Given as goal

abbrev pub invariant-loop-first : goal.invariant-loop-first
invariant-loop-first l = Left l.s l.rest

abbrev pub decreases-loop-first : goal.decreases-loop-first
decreases-loop-first l = length l.rest
