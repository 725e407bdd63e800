-- `rest_of` meets its contract: the plan of a column's field is that of the row's plan, whatever the row read returns.
use Rattle.std.specs.Prelude.{Option, None, Ok}
use Rattle.std.proofs.Common.{ℕ, ◌≡◌, ◌+◌, ◌*◌, true, List, refl, sym, ap, ◌∙◌, arith}
use Rattle.layout.specs.declared.BinTable.{BinTable}
use Rattle.cell.specs.declared.Field.{Field}
use Rattle.cell.specs.declared.Heap.{Heap}
use Rattle.cell.specs.Field.{field}
use Rattle.walk.specs.declared.TableData.{TableData}
use Rattle.walk.specs.declared.Stepped.{Stepped}
use Rattle.walk.specs.Plain.{column_of, chosen}
use Rattle.walk.proofs.Inside.{fits_layout, row_bound}
use Rattle.table.specs.Scan.{heap_of}
use Rattle.table.proofs.Columns.{Gave, gave, ended}
use Rattle.row.specs.declared.plan.FieldPlan.{FieldPlan}
use Rattle.row.specs.Plan.{stepped, plan_of, field_plan}
use Rattle.row.proofs.Fields.{field_on}
use Rattle.row.proofs.Left.{Left, left_start, left_next, left_outside, left_bound, left_on, left_end}
use Rattle.row.proofs.plan.rest_of.Goals.{In-Some, After-plan_of-planned}
use Rattle.row.proofs.plan.rest_of.Goals as goal

-- a plan of the cursor's row: what the row read returns has no part in the plan of a field
unread : TableData → Stepped (Option ℕ)
unread u = stepped u (Ok None)

pub loop-c-init : goal.loop-c-init
loop-c-init c =
    rw (c.into_iter-c-iterator.ensures.into_iter_gives, c.chosen_columns-c-items.ensures)
    record {
      over = record { choice_is = refl; columns = refl };
      left = left_start c.args.row.now.layout.now c.args.row.now.area.now c.args.row.now.cursor c.args.row.now.inside;
    }

pub offset_bounds-row-c : goal.offset_bounds-row-c
offset_bounds-row-c c = omega (arith, c.span-span.ensures.few, c.in-Some.ensures.steps.1, c.loop-c.invariant.over.columns)

pub bounds-row-c : goal.bounds-row-c
bounds-row-c c = omega (arith, c.span-span.ensures.few, c.in-Some.ensures.steps.1, c.loop-c.invariant.over.columns)

-- the iterator gave a column
module _ (c : In-Some) where
  given : Gave c.args.row.now.cursor.choice c.args.row.now.layout.now.tfields c.loop-c.c-iterator.next c.in-Some.c c.next.new.self
  given =
      gave c.args.row.now.cursor.choice c.args.row.now.layout.now.tfields c.span-span.ensures.few c.loop-c.c-iterator c.next.new.self c.loop-c.invariant.over c.in-Some.c
      c.in-Some.ensures.steps

  here : Left c.args.row.now.layout.now c.args.row.now.area.now c.args.row.now.cursor c.loop-c.total c.loop-c.skip c.in-Some.c
  here = left_next c.args.row.now.layout.now c.args.row.now.area.now c.args.row.now.cursor c.loop-c.total c.loop-c.skip c.loop-c.c-iterator.next c.in-Some.c given.is c.loop-c.invariant.left

pub field_at-field-requires : goal.field_at-field-requires
field_at-field-requires c =
    omega (arith, c.span-span.ensures.columns c.in-Some.c (given (goal.at.field_at-field-requires c).In-Some).column)

-- the plan f of column k, whose field is x
planned_is : (l : BinTable) (a : List ℕ) (u : TableData) (k skip start : ℕ) (h : Heap) → chosen u.choice k ≡ true → start ≡ u.row * l.naxis1 → h ≡ heap_of l u.heap
    → (x : Field) → x ≡ field a (start + (column_of l k).start) (column_of l k) h.followed h.start h.end
    → (f : FieldPlan) → f ≡ plan_of u.row k (column_of l k) skip x → f ≡ field_on l a u (unread u) k skip
unfolding field_plan
planned_is l a u k skip start h t s e x r f q = q ∙ rw (r, s, e, t)

-- the field of that column is planned
module _ (c : After-plan_of-planned) where
  planned : chosen c.args.row.now.cursor.choice c.in-Some.c ≡ true
      → c.plan_of-planned.result ≡ field_on c.args.row.now.layout.now c.args.row.now.area.now c.args.row.now.cursor (unread c.args.row.now.cursor) c.in-Some.c c.loop-c.skip
  planned t =
      planned_is c.args.row.now.layout.now c.args.row.now.area.now c.args.row.now.cursor c.in-Some.c c.loop-c.skip _ _ t c.span-span.ensures.start c.span-span.ensures.heap
      _ c.field_at-field.ensures _ c.plan_of-planned.ensures

pub returns-then-is_outside : goal.returns-then-is_outside
returns-then-is_outside c =
    let r = c.args.row.now in
    let i = (goal.at.returns-then-is_outside c).In-Some in
    let p = planned (goal.at.returns-then-is_outside c).After-plan_of-planned (given i).picked in
    sym
    (left_outside r.layout.now r.area.now r.cursor (unread r.cursor) c.loop-c.total c.loop-c.skip c.in-Some.c (given i).column (here i)
    (rw (← p) (sym c.if-is_outside.ensures)))

pub overflow_add-total : goal.overflow_add-total
overflow_add-total c =
    let r = c.args.row.now in
    let i = (goal.at.overflow_add-total c).In-Some in
    let p = planned (goal.at.overflow_add-total c).After-plan_of-planned (given i).picked in
    omega (
      arith,
      ap (λ (f : FieldPlan). f.n) p,
      left_bound r.layout.now r.area.now r.cursor (unread r.cursor) c.loop-c.total c.loop-c.skip c.in-Some.c (given i).column (here i),
      row_bound r.layout.now (fits_layout r.layout.now r.area.now r.fit) r.area.now r.cursor.choice r.cursor.heap r.cursor.row,
    )

pub loop-c-preserved : goal.loop-c-preserved
loop-c-preserved c =
    let r = c.args.row.now in
    let i = (goal.at.loop-c-preserved c).In-Some in
    let p = planned (goal.at.loop-c-preserved c).After-plan_of-planned (given i).picked in
    record {
      over = (given i).over;
      left = rw ((given i).later, p)
          (left_on r.layout.now r.area.now r.cursor (unread r.cursor) c.loop-c.total c.loop-c.skip c.in-Some.c (given i).column (here i)
          (rw (← p) (sym c.if-is_outside.ensures)));
    }

pub returns : goal.returns
returns c =
    let r = c.args.row.now in
    let s = c.loop-c in
    sym
    (left_end r.layout.now r.area.now r.cursor s.total s.skip _
    (ended r.cursor.choice r.layout.now.tfields c.span-span.ensures.few s.c-iterator c.next.new.self s.invariant.over c.in-None.ensures.steps)
    (left_next r.layout.now r.area.now r.cursor s.total s.skip s.c-iterator.next _ refl s.invariant.left))
