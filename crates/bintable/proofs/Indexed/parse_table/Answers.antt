-- `parse_table` meets its contract: the size of the data fits, and the data area is checked last.
use Rattle.std.proofs.Common.{rules, ap, ◌∙◌, cond, leb, length, arith}
use Rattle.layout.specs.declared.BinTable.{BinTable}
use Rattle.layout.specs.Layout.{data_size}
use Rattle.refusal.specs.Refusal.{accepted, refused}
use Rattle.bintable.specs.Entry.{check10}
use Rattle.bintable.proofs.Entered.{layout_size, columns_refused, by_area}
use Rattle.bintable.proofs.Indexed.parse_table.Goals as goal

pub overflow_mul-layout : goal.overflow_mul-layout
overflow_mul-layout c = rw c.in_ok-layout.ensures.layout (omega (arith, (layout_size c.args.self.now.header.now c.requires.1).0))

pub overflow_add-layout : goal.overflow_add-layout
overflow_add-layout c = rw c.in_ok-layout.ensures.layout (omega (arith, layout_size c.args.self.now.header.now c.requires.1))

pub returns-in_err-layout : goal.returns-in_err-layout
returns-in_err-layout c =
    let e = columns_refused c.args.self.now.header.now c.args.area.now c.requires.0 c.requires.1 _ _ c.in_err-layout.ensures.check in
    search (rules, e)

pub returns-in_err-check10 : goal.returns-in_err-check10
unfolding check10
returns-in_err-check10 c =
    let h = c.args.self.now.header.now in let a = c.args.area.now in
    let size = ap (λ (l : BinTable). cond (leb (data_size l) (length a)) accepted (refused 10 0)) c.in_ok-layout.ensures.layout in
    let e = by_area h a c.requires.0 c.requires.1 _ c.in_ok-layout.ensures.check (c.in_err-check10.ensures ∙ size) in
    search (rules, e)

pub returns : goal.returns
unfolding check10
returns c =
    let h = c.args.self.now.header.now in let a = c.args.area.now in
    let size = ap (λ (l : BinTable). cond (leb (data_size l) (length a)) accepted (refused 10 0)) c.in_ok-layout.ensures.layout in
    let e = by_area h a c.requires.0 c.requires.1 _ c.in_ok-layout.ensures.check (c.in_ok-check10.ensures ∙ size) in
    rw c.in_ok-layout.ensures.layout e
