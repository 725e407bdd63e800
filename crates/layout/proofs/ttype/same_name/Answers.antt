-- `same_name` meets its contract: each step takes one byte of both names, two quotes of the header as one.
use Rattle.std.proofs.Common.{ℕ, List, drop, sym, ◌∙◌, ap}
use lib.Pointwise.{pointwise}
use Rattle.layout.specs.Names.{undoubled, alike}
use Rattle.layout.proofs.Quotes.{name_short, name_over, name_other}
use Rattle.layout.proofs.ttype.same_name.Goals as goal

pub returns-in_default : goal.returns-in_default
returns-in_default c =
    let l = c.loop-byte in
    sym (l.invariant ∙ name_short l.rest.now c.args.sought.now l.byte-index c.in_default.ensures.cases c.loop-byte-test.true)

pub returns-then-not-alike : goal.returns-then-not-alike
returns-then-not-alike c =
    let l = c.loop-byte in
    let s = c.args.sought.now in
    sym (l.invariant ∙ ap (λ (r : List ℕ). pointwise alike (undoubled r) (drop l.byte-index s)) c.in-Some.ensures.cases.0
    ∙ name_other c.in-Some.own.now c.in-Some.after.now s l.byte-index c.loop-byte-test.true (sym c.alike.ensures ∙ c.if-not-alike.true))

pub returns : goal.returns
returns c =
    let l = c.loop-byte in
    c.is_empty.ensures ∙ sym (l.invariant ∙ name_over l.rest.now c.args.sought.now l.byte-index c.loop-byte-test.false)
