-- `columns_ok` meets its contract: each step takes one column. At most 64 columns of a limited count: their bytes fit.
use Rattle.std.proofs.Common.{List, length, get_or, refl, sym, ◌∙◌, ap, arith, length-take}
use Rattle.layout.specs.declared.Column.{Column}
use Rattle.layout.specs.Layout.{no_column}
use Rattle.layout.proofs.Ok.{column_limit, ok_next, ok_count, ok_start, ok_end}
use Rattle.layout.proofs.limits.columns_ok.Goals as goal

pub returns-then-not-count_ok : goal.returns-then-not-count_ok
returns-then-not-count_ok c =
    let l = c.loop-column in
    sym (l.invariant.1 ∙ ok_count _ _ c.columns-column-items.result.now l.column-index _ c.loop-column-test.true refl
    (sym c.count_ok.ensures ∙ c.if-not-count_ok.true))

pub returns-then-column-at : goal.returns-then-column-at
returns-then-column-at c =
    let l = c.loop-column in
    sym (l.invariant.1 ∙ ok_start _ _ c.columns-column-items.result.now l.column-index _ c.loop-column-test.true refl c.if-column-at.true)

pub overflow_add-at : goal.overflow_add-at
overflow_add-at c =
    let column = get_or c.columns-column-items.result.now c.loop-column.column-index no_column in
    let small = column_limit column (sym c.count_ok.ensures ∙ c.if-not-count_ok.false) in
    omega (arith, c.num_bytes_field-at.ensures, small, ap (λ (cs : List Column). length cs) c.columns-column-items.ensures, length-take c.args.layout.now.tfields c.args.layout.now.columns)

pub loop-column-preserved : goal.loop-column-preserved
loop-column-preserved c =
    let l = c.loop-column in
    let count = sym c.count_ok.ensures ∙ c.if-not-count_ok.false in
    let small = column_limit (get_or c.columns-column-items.result.now l.column-index no_column) count in (
      omega (arith, c.num_bytes_field-at.ensures, small),
      rw c.num_bytes_field-at.ensures
          (l.invariant.1 ∙ ok_next _ _ c.columns-column-items.result.now l.column-index _ c.loop-column-test.true refl count c.if-column-at.false),
    )

pub returns : goal.returns
returns c =
    let l = c.loop-column in
    sym (l.invariant.1 ∙ ok_end _ _ c.columns-column-items.result.now l.column-index c.loop-column-test.false)
