-- `string_value` meets its contract: the string ends at the quote that closes it, and what may follow a value follows.
use Rattle.std.proofs.Common.{ℕ, sym, ◌∙◌, ap, Some}
use Rattle.card.specs.declared.Value.TheVariants.{String}
use Rattle.card.proofs.Values.{string_open, string_unfollowed, string_says}
use Rattle.card.proofs.field.string_value.Goals as goal

pub returns-in_err-n : goal.returns-in_err-n
returns-in_err-n c =
    c.from_residual.ensures ∙ sym (string_open c.args.s.now c.args.start (sym c.in_err-n.was ∙ c.closing_quote.ensures))

pub returns-then-not-may_follow : goal.returns-then-not-may_follow
returns-then-not-may_follow c =
    let n = sym c.in_ok-n.was ∙ c.closing_quote.ensures in
    sym (string_unfollowed c.args.s.now c.args.start c.in_ok-n.n n (sym c.may_follow.ensures ∙ c.if-not-may_follow.true))

pub returns : goal.returns
returns c =
    let s = c.args.s.now in
    let n = sym c.in_ok-n.was ∙ c.closing_quote.ensures in
    ap (λ (k : ℕ). Some (String c.args.start k))
    c.trimmed_len-len.ensures
    ∙ sym (string_says s c.args.start c.in_ok-n.n n (sym c.may_follow.ensures ∙ c.if-not-may_follow.false))
