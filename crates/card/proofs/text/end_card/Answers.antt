-- `end_card` meets its contract: the three letters, then spaces.
use Rattle.std.proofs.Common.{◌&&◌, Bool, drop, sym, ◌∙◌, ap, length-drop, arith}
use lib.Seq.{take_all}
use Rattle.ascii.specs.Text.{spaces}
use Rattle.card.proofs.Records.{end_parts}
use Rattle.card.proofs.text.end_card.Goals as goal

pub returns-then-starts_with : goal.returns-then-starts_with
returns-then-starts_with c =
    let s = c.args.s.now in
    let rest = take_all 77 (drop 3 s) (simp length-drop (omega arith)) in
    let begins = sym c.starts_with.ensures.value ∙ c.if-starts_with.true in
    c.all_spaces.ensures ∙ ap spaces rest ∙ sym (end_parts s c.told-s ∙ ap (λ (b : Bool). b && spaces (drop 3 s)) begins)

pub returns-else-starts_with : goal.returns-else-starts_with
returns-else-starts_with c =
    let s = c.args.s.now in
    let begins = sym c.starts_with.ensures.value ∙ c.if-starts_with.false in
    c.if-starts_with.false ∙ sym (end_parts s c.told-s ∙ ap (λ (b : Bool). b && spaces (drop 3 s)) begins)
