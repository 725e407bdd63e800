-- `read_on` meets its contract: a digit takes the number on, and what is no digit, or too much, ends it.
use Rattle.std.proofs.Common.{sym, ◌∙◌, arith}
use Rattle.ascii.proofs.Reading.{from_is, from_next, from_stop, from_end}
use Rattle.ascii.proofs.digits.read_on.Goals as goal

pub loop-byte-preserved : goal.loop-byte-preserved
loop-byte-preserved c =
    let l = c.loop-byte in
    sym (from_next l.number c.args.text.now l.byte-index _ c.loop-byte-test.true (sym c.with_digit.ensures ∙ c.in_ok-number.was)) ∙ l.invariant

pub returns-in_err-number : goal.returns-in_err-number
returns-in_err-number c =
    let l = c.loop-byte in
    c.from_residual.ensures
    ∙ sym (from_stop l.number c.args.text.now l.byte-index c.loop-byte-test.true (sym c.with_digit.ensures ∙ c.in_err-number.was))
    ∙ l.invariant
    ∙ from_is c.args.n c.args.text.now (omega arith)

pub returns : goal.returns
returns c =
    let l = c.loop-byte in
    sym (from_end l.number c.args.text.now l.byte-index c.loop-byte-test.false)
    ∙ l.invariant
    ∙ from_is c.args.n c.args.text.now (omega arith)
