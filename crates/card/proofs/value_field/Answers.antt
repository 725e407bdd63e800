-- `value_field` meets its contract: the field starts at byte 11.
use Rattle.std.proofs.Common.{ℕ, List, drop, length-drop, sym, ◌∙◌, ap, Some, arith}
use Rattle.std.specs.Option.{option_copied}
use lib.Seq.{take_all}
use Rattle.card.specs.Record.{has_value}
use Rattle.card.proofs.Records.{no_value, record_is}
use Rattle.card.proofs.value_field.Goals as goal

pub returns-in_err-card : goal.returns-in_err-card
returns-in_err-card c =
    let missing = rw c.in_err-card.was at c.record_at.ensures in
    rw (no_value c.args.header.now c.args.number missing) (ap option_copied c.from_residual.ensures)

pub returns : goal.returns
returns c =
    let there = record_is c.args.header.now c.args.number c.in_ok-card.card.now c.in_ok-card.ensures in
    let field = take_all 70 (drop 10 c.in_ok-card.card.now) (simp length-drop (omega arith)) in
    let held = sym (ap has_value there) ∙ sym c.value_indicator.ensures ∙ c.if-not-value_indicator.false in
    rw held (ap (λ (l : List ℕ). Some l) (field ∙ ap (drop 10) there))
