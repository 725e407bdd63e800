-- `next_of` meets its contract: each turn of the pass takes one column, and an entry that the pass found is that of the cell read.
-- Where it finds none, `step::next` answers.
use Rattle.std.proofs.Common.{◌≡◌, ◌≤◌, ◌<◌, ℕ, true, length, sym, ◌∙◌, subst, add-one, arith}
use lib.Dec.{eqb}
use borrow.Author.Tests.{eqb-true, leb-true}
use Rattle.ascii.proofs.Cases.{both}
use Rattle.tform.specs.Width.{count_ok}
use Rattle.layout.specs.Layout.{naxis2_limit, columns_of, layout_ok}
use Rattle.walk.specs.Plain.{column_of, field_of, column_size}
use Rattle.walk.proofs.Readings.{entry_is}
use Rattle.walk.proofs.Inside.{fits_layout, column_in_row, items_bound}
use Rattle.table.proofs.Scanned.{Scanned, Ready, FoundIn, sized_at, scanned_next, ready_says, ready_columns, ready_row, ready_data, ready_start, ready_few, ready_full, found_in, found_fits, found_step}
use Rattle.table.proofs.next_of.Goals.{Then-ready, After-column_size-size, Then-scan-layout}
use Rattle.table.proofs.next_of.Goals as goal

-- the tests of `ready` held
module _ (c : Then-ready) where
  said : Ready c.args.layout.now c.args.area.now c.args.cursor.choice c.args.cursor.row
  said = ready_says c.args.layout.now c.args.area.now c.args.cursor (rw c.from.ensures at (sym c.ready.ensures ∙ c.if-ready.true))

  few_columns : c.args.layout.now.tfields ≤ 64
  few_columns = ready_columns _ _ _ _ said

  full : length (columns_of c.args.layout.now) ≡ c.args.layout.now.tfields
  full = ready_full c.args.layout.now (omega arith) few_columns

pub overflow_mul-start : goal.overflow_mul-start
overflow_mul-start c =
    let y = said (goal.at.overflow_mul-start c).Then-ready in omega (arith, ready_start _ _ _ _ y, ready_data _ _ _ _ y)

pub overflow_mul-heap : goal.overflow_mul-heap
overflow_mul-heap c = omega (arith, ready_data _ _ _ _ (said (goal.at.overflow_mul-heap c).Then-ready))

pub overflow_add-heap : goal.overflow_add-heap
overflow_add-heap c = omega (arith, ready_data _ _ _ _ (said (goal.at.overflow_add-heap c).Then-ready))

pub offset_bounds-layout-c : goal.offset_bounds-layout-c
offset_bounds-layout-c c = omega (arith, few_columns (goal.at.offset_bounds-layout-c c).Then-ready)

pub bounds-layout-c : goal.bounds-layout-c
bounds-layout-c c = omega (arith, few_columns (goal.at.bounds-layout-c c).Then-ready)

pub overflow_add-start : goal.overflow_add-start
overflow_add-start c =
    let r = (goal.at.overflow_add-start c).Then-ready in
    let y = said r in
    omega (arith, c.loop-c.invariant.1.summed.bytes, few_columns r, ready_start _ _ _ _ y, ready_data _ _ _ _ y)

-- the next column is in order, and its entries are counted
module _ (c : After-column_size-size) where
  ordered : (count_ok (column_of c.args.layout.now c.loop-c.c).form (column_of c.args.layout.now c.loop-c.c).count ≡ true) × (eqb (column_of c.args.layout.now c.loop-c.c).start c.loop-c.scan.at ≡ true)
  ordered = both _ _ (sym c.in_order.ensures ∙ c.if-not-in_order.false)

  sized : c.column_size-size.result ≡ column_size c.args.layout.now c.args.area.now c.args.cursor.choice c.args.cursor.heap c.args.cursor.row c.loop-c.c
  sized =
      rw (c.column_size-size.ensures, c.chosen-is_chosen.ensures)
      (sized_at c.args.layout.now c.args.area.now c.args.cursor.choice c.args.cursor.heap c.args.cursor.row c.loop-c.c c.loop-c.scan.at (eqb-true _ _ ordered.1))

  few : Ready c.args.layout.now c.args.area.now c.args.cursor.choice c.args.cursor.row → c.column_size-size.result ≤ 17594467745808
  few y = rw sized (ready_few _ _ _ _ y c.args.cursor.heap c.loop-c.c ordered.0)

pub after-scan-requires : goal.after-scan-requires
after-scan-requires c =
    let r = (goal.at.after-scan-requires c).Then-ready in
    let s = (goal.at.after-scan-requires c).After-column_size-size in (
      (ordered s).0,
      (
        omega (arith, c.loop-c.invariant.1.summed.bytes, few_columns r),
        omega (arith, few s (said r), c.loop-c.invariant.1.summed.some, few_columns r),
      ),
    )

pub loop-c-preserved : goal.loop-c-preserved
loop-c-preserved c =
    let r = (goal.at.loop-c-preserved c).Then-ready in
    let s = (goal.at.loop-c-preserved c).After-column_size-size in
    let u = c.args.cursor in (
      omega arith,
      rw (add-one c.loop-c.c, c.after-scan.ensures)
          (scanned_next c.args.layout.now c.args.area.now u.choice u.heap u.row u.passed (full r) c.loop-c.c _ c.loop-c.scan c.loop-c-test.true c.loop-c.invariant.1
          (few s (said r)) (ordered s).0 (eqb-true _ _ (ordered s).1) (sized s)),
    )

-- the pass found an entry, and the columns take the bytes of a row
module _ (c : Then-scan-layout) where
  ready_there : Ready c.args.layout.now c.args.area.now c.args.cursor.choice c.args.cursor.row
  ready_there = ready_says c.args.layout.now c.args.area.now c.args.cursor (rw c.from.ensures at (sym c.ready.ensures ∙ c.if-ready.true))

  all : length (columns_of c.args.layout.now) ≡ c.args.layout.now.tfields
  all = ready_full c.args.layout.now (omega arith) (ready_columns _ _ _ _ ready_there)

  over : Scanned c.args.layout.now c.args.area.now c.args.cursor.choice c.args.cursor.heap c.args.cursor.row c.args.cursor.passed c.args.layout.now.tfields c.loop-c.scan
  over =
      let e : c.loop-c.c ≡ c.args.layout.now.tfields = omega arith in
      subst (λ (n : ℕ). Scanned c.args.layout.now c.args.area.now c.args.cursor.choice c.args.cursor.heap c.args.cursor.row c.args.cursor.passed n c.loop-c.scan) e c.loop-c.invariant.1

  here : FoundIn c.args.layout.now c.args.area.now c.args.cursor.choice c.args.cursor.heap c.args.cursor.row c.args.cursor.passed c.args.layout.now.tfields c.loop-c.scan.size c.in-Some.found
  here = found_in c.args.layout.now c.args.area.now c.args.cursor c.loop-c.scan c.in-Some.found all ready_there over c.if-scan-layout.true c.in-Some.is

  layout_fits : layout_ok c.args.layout.now ≡ true
  layout_fits =
      fits_layout c.args.layout.now c.args.area.now
      (found_fits c.args.layout.now c.args.area.now c.args.cursor c.loop-c.scan c.in-Some.found all ready_there over c.if-scan-layout.true c.in-Some.is)

  below : c.in-Some.found.column < 64
  below = omega (arith, here.1.0, ready_columns _ _ _ _ ready_there)

pub offset_bounds-layout-c-then-scan-layout : goal.offset_bounds-layout-c-then-scan-layout
offset_bounds-layout-c-then-scan-layout c = omega (arith, below (goal.at.offset_bounds-layout-c-then-scan-layout c).Then-scan-layout)

pub bounds-layout-c-then-scan-layout : goal.bounds-layout-c-then-scan-layout
bounds-layout-c-then-scan-layout c = omega (arith, below (goal.at.bounds-layout-c-then-scan-layout c).Then-scan-layout)

pub overflow_add-at : goal.overflow_add-at
overflow_add-at c =
    let s = (goal.at.overflow_add-at c).Then-scan-layout in
    let y = ready_there s in
    omega (arith, column_in_row c.args.layout.now (layout_fits s) c.in-Some.found.column (here s).1.0, ready_start _ _ _ _ y, ready_data _ _ _ _ y)

pub entry_of-entry-requires : goal.entry_of-entry-requires
unfolding field_of
entry_of-entry-requires c =
    let s = (goal.at.entry_of-entry-requires c).Then-scan-layout in (
      (here s).1.1.0,
      items_bound c.args.layout.now (layout_fits s) c.args.area.now c.args.cursor.heap c.args.cursor.row c.in-Some.found.column
          (ready_row _ _ _ _ (ready_there s)) (here s).1.0,
    )

pub read_entry-requires : goal.read_entry-requires
read_entry-requires c =
    let s = (goal.at.read_entry-requires c).Then-scan-layout in
    let y = ready_there s in
    (omega (arith, ready_row _ _ _ _ y, leb-true c.args.layout.now.naxis2 naxis2_limit y.rows), (here s).0)

pub returns-then-scan-layout : goal.returns-then-scan-layout
unfolding field_of
returns-then-scan-layout c =
    let s = (goal.at.returns-then-scan-layout c).Then-scan-layout in
    c.read_entry.ensures
    ∙ rw (c.entry_by.ensures, c.entry_of-entry.ensures, entry_is c.args.layout.now c.args.how.reading c.args.area.now c.args.cursor.row c.in-Some.found.column _ c.in-Some.found.idx)
    (sym (found_step c.args.layout.now c.args.area.now c.args.cursor c.loop-c.scan c.in-Some.found (all s) (ready_there s) (over s) c.if-scan-layout.true c.in-Some.is c.args.how))
