-- `page_refused` meets its contract: the number and the place are those of the refusal, and so are the words.
use Rattle.std.proofs.Common.{◌∙◌, refl}
use Rattle.subcommand.proofs.message.page_refused.Goals as goal

pub returns : goal.returns
returns c =
    let n = c.number_and_place-numbers.ensures in
    c.noted_refusal.ensures ∙ rw (c.words-words.ensures, n.number, n.place) refl
