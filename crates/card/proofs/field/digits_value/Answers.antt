-- `digits_value` meets its contract: so many digits are a number, of 19 at most.
use Rattle.std.proofs.Common.{ℕ, drop, sym, ◌∙◌, ap, arith, rules, Some, FitsSigned}
use Rattle.std.specs.Int.{w128}
use Rattle.std.proofs.lemmas.Int.{to_z-of_z}
use Rattle.ascii.specs.Text.{digit}
use Rattle.ascii.specs.Number.{number}
use Rattle.ascii.proofs.Front.{front_le}
use Rattle.card.specs.Ends.{follows}
use Rattle.card.proofs.Values.{digits_over, digits_before, digits_say, unread, read}
use Rattle.card.proofs.field.digits_value.Goals as goal

pub returns-then-n-most : goal.returns-then-n-most
returns-then-n-most c = sym (digits_over c.args.most _ c.args.s.now (omega arith))

pub split_at-requires : goal.split_at-requires
split_at-requires c = omega (arith, front_le digit c.args.s.now)

pub returns-then-not-may_follow : goal.returns-then-not-may_follow
returns-then-not-may_follow c =
    let n = c.leading_digits-n in
    let back = ap (λ (k : ℕ). drop k c.args.s.now) (sym n.ensures) ∙ sym c.split_at.ensures.back in
    sym (digits_before c.args.most c.args.minus c.args.s.now (ap follows back ∙ sym c.may_follow.ensures ∙ c.if-not-may_follow.true))

pub returns-in_err-number : goal.returns-in_err-number
returns-in_err-number c =
    let n = c.leading_digits-n in
    let none = sym c.in_err-number.was ∙ c.parse_number.ensures ∙ ap number c.split_at.ensures.front in
    c.from_residual.ensures ∙ sym (unread c.args.most c.requires c.args.s.now n.result n.ensures c.if-n-most.false c.args.minus none)

pub returns : goal.returns
returns c =
    let n = c.leading_digits-n in
    let some = sym c.in_ok-number.was ∙ c.parse_number.ensures ∙ ap number c.split_at.ensures.front in
    let r = read c.args.most c.requires c.args.s.now n.result n.ensures c.if-n-most.false _ some in
    let f = ap follows (sym c.split_at.ensures.back) ∙ sym c.may_follow.ensures ∙ c.if-not-may_follow.false in
    let fits : FitsSigned w128 c.signed.result = search rules in
    simp to_z-of_z (ap Some c.signed.ensures)
    ∙ digits_say c.args.most c.requires c.args.s.now n.result n.ensures c.if-n-most.false c.args.minus f _ r
