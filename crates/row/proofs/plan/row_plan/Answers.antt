-- `row_plan` meets its contract: where the tests of the pass hold for each column, and the sums come out, the row has no
-- descriptor.
use Rattle.std.proofs.Common.{ℕ, ◌≡◌, ◌≤◌, Bool, true, cond, List, sym, ap, subst, ◌∙◌, ◌&&◌, length, add-one, arith}
use lib.Dec.{eqb}
use borrow.Author.Tests.{eqb-true}
use Rattle.ascii.proofs.Cases.{both}
use Rattle.tform.specs.Width.{count_ok, field_items}
use Rattle.layout.specs.declared.BinTable.{BinTable}
use Rattle.layout.specs.Layout.{columns_of}
use Rattle.layout.proofs.Ok.{column_limit}
use Rattle.walk.specs.Plain.{column_of, chosen, column_size}
use Rattle.walk.specs.Walk.{gather}
use Rattle.walk.proofs.Laws.{from, from_end}
use Rattle.table.specs.Scan.{plain_column}
use Rattle.table.proofs.Scanned.{Summed, Ready, summed_next, ready_says, ready_columns, ready_row, ready_few, ready_full, summed_fits}
use Rattle.row.proofs.PlainRow.{AllCells, plain_size, plain_all, plain_plan}
use Rattle.row.proofs.plan.row_plan.Goals.{At-loop-c}
use Rattle.row.proofs.plan.row_plan.Goals as goal

-- what the test of a column says
record Ordered (l : BinTable) (choice k at : ℕ) : Type 0 where
  count : count_ok (column_of l k).form (column_of l k).count ≡ true
  place : (column_of l k).start ≡ at
  plain : plain_column (column_of l k) (chosen choice k) ≡ true

ordered : (l : BinTable) (choice k at : ℕ) (t : Bool) → t ≡ chosen choice k
    → true ≡ ((count_ok (column_of l k).form (column_of l k).count && eqb (column_of l k).start at) && plain_column (column_of l k) t)
    → Ordered l choice k at
ordered l choice k at t is e =
    let q = both _ _ (sym e) in
    let o = both _ _ q.0 in record { count = o.0; place = eqb-true _ _ o.1; plain = rw is at q.1 }

-- the entries of a column
sized : (l : BinTable) (a : List ℕ) (choice : ℕ) (heap : Bool) (r k at : ℕ) (t : Bool) (n : ℕ) → t ≡ chosen choice k
    → n ≡ cond t (field_items (column_of l k).form (column_of l k).count) 0 → Ordered l choice k at → n ≡ column_size l a choice heap r k
sized l a choice heap r k at t n is e o =
    e ∙ ap (λ (u : Bool). cond u (field_items (column_of l k).form (column_of l k).count) 0) is ∙ plain_size l a choice heap r k o.plain

-- the pass over all columns
none_later : (l : BinTable) (a : List ℕ) (choice : ℕ) (heap : Bool) (r k : ℕ) → l.tfields ≤ k → AllCells (from l a choice heap r k)
unfolding gather
none_later l a choice heap r k h = rw (from_end l a choice heap r k h)

-- the tests of `ready` held
module _ (c : At-loop-c) where
  said : Ready c.args.layout.now c.args.area.now c.args.cursor.choice c.args.cursor.row
  said = ready_says c.args.layout.now c.args.area.now c.args.cursor (rw c.from.ensures at (sym c.if-not-ready.ensures))

  few_columns : c.args.layout.now.tfields ≤ 64
  few_columns = ready_columns _ _ _ _ said

  full : length (columns_of c.args.layout.now) ≡ c.args.layout.now.tfields
  full = ready_full c.args.layout.now (omega arith) few_columns

pub bounds-layout-c : goal.bounds-layout-c
bounds-layout-c c = omega (arith, few_columns (goal.at.bounds-layout-c c).At-loop-c)

pub offset_bounds-layout-c : goal.offset_bounds-layout-c
offset_bounds-layout-c c = omega (arith, few_columns (goal.at.offset_bounds-layout-c c).At-loop-c)

pub overflow_add-at : goal.overflow_add-at
overflow_add-at c =
    let l = c.args.layout.now in
    let k = c.loop-c.c in
    let o = ordered l c.args.cursor.choice k c.loop-c.at _ c.chosen-is_chosen.ensures c.if-not-plain_in_order.ensures in
    omega (arith, c.num_bytes_field-at.ensures, c.loop-c.invariant.summed.bytes, few_columns (goal.at.overflow_add-at c).At-loop-c, column_limit (column_of l k) o.count)

pub loop-c-preserved : goal.loop-c-preserved
loop-c-preserved c =
    let l = c.args.layout.now in
    let a = c.args.area.now in
    let r = c.args.cursor in
    let k = c.loop-c.c in
    let s = (goal.at.loop-c-preserved c).At-loop-c in
    let o = ordered l r.choice k c.loop-c.at _ c.chosen-is_chosen.ensures c.if-not-plain_in_order.ensures in
    let z = sized l a r.choice r.heap r.row k c.loop-c.at _ c.item_cells-cells.result c.chosen-is_chosen.ensures c.item_cells-cells.ensures o in
    let few : c.item_cells-cells.result ≤ 17594467745808 = rw z (ready_few l a r.choice r.row (said s) r.heap k o.count) in
    record {
      within = omega arith;
      summed = rw (add-one k, c.num_bytes_field-at.ensures)
          (summed_next l a r.choice r.heap r.row (full s) k c.loop-c.at c.loop-c.cells _ c.loop-c-test.true
          c.loop-c.invariant.summed few o.count o.place z);
      cells = λ w. c.loop-c.invariant.cells (plain_all l a r.choice r.heap r.row k o.plain c.loop-c-test.true (rw add-one at w));
    }

-- all columns are passed
over : (c : At-loop-c) → c.args.layout.now.tfields ≤ c.loop-c.c
    → Summed c.args.layout.now c.args.area.now c.args.cursor.choice c.args.cursor.heap c.args.cursor.row c.args.layout.now.tfields c.loop-c.at c.loop-c.cells
over c h =
    let e : c.loop-c.c ≡ c.args.layout.now.tfields = omega arith in
    subst (λ (n : ℕ). Summed c.args.layout.now c.args.area.now c.args.cursor.choice c.args.cursor.heap c.args.cursor.row n c.loop-c.at c.loop-c.cells) e c.loop-c.invariant.summed

pub invariant_of-row : goal.invariant_of-row
invariant_of-row c =
    let s = (goal.at.invariant_of-row c).At-loop-c in
    record {
      fit = summed_fits c.args.layout.now c.args.area.now c.args.cursor c.loop-c.at c.loop-c.cells (full s) (said s) (over s c.loop-c-test.false) c.if-at-layout.true;
      inside = ready_row _ _ _ _ (said s);
    }

pub returns-then-at-layout : goal.returns-then-at-layout
returns-then-at-layout c =
    let l = c.args.layout.now in
    let a = c.args.area.now in
    let r = c.args.cursor in
    let s = (goal.at.returns-then-at-layout c).At-loop-c in
    c.rest_plan.ensures
    ∙ sym
    (plain_plan l a r c.loop-c.at c.loop-c.cells c.args.room (full s) (said s) (over s c.loop-c-test.false) c.if-at-layout.true c.if-cursor-ne0.false
    (c.loop-c.invariant.cells (none_later l a r.choice r.heap r.row c.loop-c.c c.loop-c-test.false)))
