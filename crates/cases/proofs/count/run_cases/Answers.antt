-- `run_cases` meets its contract: a whole case is one turn of the count, and no whole case ends it.
use Rattle.std.proofs.Common.{sym, ap, ◌∙◌, arith, length}
use lib.ListN.{length-drop}
use borrow.Author.Tests.{lt-leb}
use Rattle.cases.specs.declared.count.Tally.{Tally}
use Rattle.cases.specs.Cases.{case_end}
use Rattle.cases.proofs.Counting.{case_same, tallied_ends, tallied_turn, counted_cases, counted_differ}
use Rattle.cases.proofs.count.run_cases.Goals as goal

pub returns-in_default-clause-value : goal.returns-in_default-clause-value
returns-in_default-clause-value c =
    let l = c.loop-case in
    let e = lt-leb (case_end l.rest.now) (length l.rest.now) (c.in_default.ensures) in
    c.end_cases.ensures
    ∙ sym (tallied_ends (length l.rest.now) l.tally l.rest.now e)
    ∙ l.invariant.counted

pub loop-case-smaller : goal.loop-case-smaller
loop-case-smaller c =
    let w = c.in-Some.ensures in
    omega (arith, ap length w.rest, w.whole, length-drop (case_end c.loop-case.rest.now) c.loop-case.rest.now)

pub loop-case-preserved : goal.loop-case-preserved
loop-case-preserved c =
    let l = c.loop-case in
    let b = l.rest.now in
    let k = c.in-Some.case in
    let w = c.in-Some.ensures in
    let r = c.same_text in
    let u = c.count_case-tally.ensures in
    let n = ap (λ (x : Tally). x.cases) u ∙ counted_cases l.tally r.result in
    let d = ap (λ (x : Tally). x.differ) u in record {
      few = omega (arith, n, l.invariant.few, w.whole, ap length w.rest, length-drop (case_end b) b);
      fewer = omega (arith, n, d, counted_differ l.tally r.result, l.invariant.fewer);
      counted = tallied_turn b l.tally c.count_case-tally.result k.rest.now r.result w.whole w.rest (r.ensures ∙ case_same b k w) u ∙ l.invariant.counted;
    }
