-- `closing_quote` meets its contract: a byte that is no quote is passed, a single quote closes, and a double one is passed.
use Rattle.card.proofs.Closing.{other_passed, double_passed, single_closes}
use Rattle.card.proofs.text.closing_quote.Goals as goal

pub loop-first-preserved-then-first-ne39 : goal.loop-first-preserved-then-first-ne39
loop-first-preserved-then-first-ne39 c =
    other_passed c.args.s.now c.loop-first.rest.now c.loop-first.invariant c.in_ok-first.first.now c.in_ok-first.after.now
    c.in_ok-first.ensures.cases.0 c.if-first-ne39.true

pub loop-first-preserved : goal.loop-first-preserved
loop-first-preserved c =
    let after = c.in-Some.ensures.cases in
    double_passed c.args.s.now c.loop-first.rest.now c.loop-first.invariant c.in_ok-first.first.now c.in_ok-first.after.now
    c.in_ok-first.ensures.cases.0 c.if-first-ne39.false after.0 c.in-Some.after.now after.1 after.2

pub returns-in-None : goal.returns-in-None
returns-in-None c =
    single_closes c.args.s.now c.loop-first.rest.now c.loop-first.invariant c.in_ok-first.first.now c.in_ok-first.after.now
    c.in_ok-first.ensures.cases.0 c.if-first-ne39.false c.in-None.ensures.cases
