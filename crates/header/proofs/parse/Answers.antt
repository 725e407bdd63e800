-- `parse` meets its contract: a bad length is refused beside the empty index.
use Rattle.std.proofs.Common.{sym, ◌∙◌, ap}
use Rattle.refusal.specs.Refusal.{outcome_of}
use Rattle.header.proofs.Indexed.{empty_index}
use Rattle.header.proofs.Lengths.{bad_check, bad_read}
use Rattle.header.proofs.parse.Goals as goal

pub returns-then-bad_length-clause-check : goal.returns-then-bad_length-clause-check
returns-then-bad_length-clause-check c =
    ap outcome_of c.refused.ensures.0 ∙ bad_check c.args.header.now (sym c.if-bad_length.ensures)

pub returns-then-bad_length-clause-index : goal.returns-then-bad_length-clause-index
returns-then-bad_length-clause-index c =
    let h = c.args.header.now in
    c.refused.ensures.1 ∙ empty_index h (bad_read h (sym c.if-bad_length.ensures))
