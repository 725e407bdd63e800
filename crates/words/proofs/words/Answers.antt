-- `words` meets its contract: the pieces of the cause, and the hint.
use Rattle.std.proofs.Common.{◌∙◌}
use Rattle.words.specs.Words.{words_with}
use Rattle.words.proofs.Pieces.{one_more}
use Rattle.words.proofs.words.Goals as goal

pub returns : goal.returns
unfolding words_with
returns c =
    one_more (λ p. p.now) c.cause.result _ c.hint.result.now (cc) ∙ rw (c.cause.ensures, c.hint.ensures)
