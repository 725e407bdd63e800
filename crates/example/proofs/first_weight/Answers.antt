-- `first_weight` meets its contract: where the entry and opening accept, the answer is that of a cell read of the column that was found.
use Rattle.std.proofs.Common.{◌≡◌, List, ℕ, ap, sym, ◌∙◌, rules, Option, Some, None}
use Rattle.std.specs.Result.{result_ok}
use Rattle.ascii.specs.Text.{bytes}
use Rattle.layout.specs.declared.BinTable.{BinTable}
use Rattle.layout.specs.Names.{find_name}
use Rattle.bintable.specs.Entry.{accepted, entry}
use Rattle.walk.specs.Step.{Opening, StepResult}
use Rattle.example.specs.Weight.{opened_weight, weight_of, weight_by, first_weight}
use Rattle.example.proofs.first_weight.Goals as goal

-- the column that was found
found : (h a : List ℕ) (l : BinTable) (f : Option ℕ) → accepted l ≡ entry h a → f ≡ find_name h l (bytes "WEIGHT") → weight_of l a f ≡ first_weight h a
found h a l f e g = ap (weight_of l a) g ∙ ap (weight_by h a) e

pub returns-in_err-column : goal.returns-in_err-column
unfolding bytes
returns-in_err-column c =
    let a = c.args in
    let n = c.ok_or.ensures.ok_part ∙ ap result_ok c.in_err-column.was in
    let w = found a.header.now a.area.now c.in_ok-layout.layout None c.in_ok-layout.ensures (sym n ∙ c.find_field_by_ttype.ensures) in
    let r = c.in_err-column.ensures.value in
    search (rules, w, r)

pub returns-in_err-cursor : goal.returns-in_err-cursor
unfolding bytes
returns-in_err-cursor c =
    let a = c.args in
    let l = c.in_ok-layout.layout in
    let s = c.ok_or.ensures.ok_part ∙ ap result_ok c.in_ok-column.was in
    let e = ap (λ (o : Opening). opened_weight l a.area.now o.outcome o.cursor) c.in_err-cursor.ensures in
    let w = e ∙ found a.header.now a.area.now l (Some c.in_ok-column.column) c.in_ok-layout.ensures (sym s ∙ c.find_field_by_ttype.ensures) in
    search (rules, w)

pub returns : goal.returns
unfolding bytes
returns c =
    let a = c.args in
    let l = c.in_ok-layout.layout in
    let s = c.ok_or.ensures.ok_part ∙ ap result_ok c.in_ok-column.was in
    let e = ap (λ (o : Opening). opened_weight l a.area.now o.outcome o.cursor) c.in_ok-cursor.ensures in
    ap (λ (o : StepResult). o.reply) c.next.ensures
    ∙ e ∙ found a.header.now a.area.now l (Some c.in_ok-column.column) c.in_ok-layout.ensures (sym s ∙ c.find_field_by_ttype.ensures)
