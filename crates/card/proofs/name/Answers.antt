-- `name` meets its contract, by the cases of `name_of`.
use Rattle.std.proofs.Common.{ℕ, List, take, length-take-le, sym, ◌∙◌, ap, arith}
use Rattle.ascii.specs.Text.{trim}
use Rattle.ascii.proofs.Spaces.{trimmed_le, trim_take}
use Rattle.card.specs.Record.{has_value}
use Rattle.card.proofs.Records.{no_name, record_is, name_none, name_some}
use Rattle.card.proofs.name.Goals as goal

pub returns-in_default : goal.returns-in_default
returns-in_default c = sym (no_name c.args.header.now c.args.number c.in_default.ensures)

pub returns-then-not-value_indicator : goal.returns-then-not-value_indicator
returns-then-not-value_indicator c =
    let there = record_is c.args.header.now c.args.number c.in-Some.card.now c.in-Some.ensures in
    sym (name_none _ (sym (ap has_value there) ∙ sym c.value_indicator.ensures ∙ c.if-not-value_indicator.true))

pub slice_bounds-result-end-2 : goal.slice_bounds-result-end-2
slice_bounds-result-end-2 c =
    sym (length-take-le _ _ (omega (arith, c.trimmed_len.ensures, trimmed_le (take 8 c.in-Some.card.now))))

pub returns : goal.returns
returns c =
    let card = c.in-Some.card.now in
    let there = record_is c.args.header.now c.args.number card c.in-Some.ensures in
    ap (λ (n : ℕ). take n (take 8 card)) c.trimmed_len.ensures
    ∙ trim_take (take 8 card) ∙ ap (λ (r : List ℕ). trim (take 8 r)) there
    ∙ sym (name_some _ (sym (ap has_value there) ∙ sym c.value_indicator.ensures ∙ c.if-not-value_indicator.false))
