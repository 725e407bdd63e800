-- What a row read decides before it stores a cell, and what the list then holds: the plan of a field, the plan of a row, and the list after the fields' cells
-- are stored one after the other. The calls' contracts are not stated by these; proofs/Stored shows that a row read by its plan is the step of walk/specs/Step.
-- Assumes nothing.
use Rattle.std.specs.Prelude.{ℕ, zero, suc, ◌+◌, ◌-◌, ◌*◌, ◌≤◌, ◌<◌, ◌≡◌, ◌^◌, Bool, false, cond, List, [], length, get_or, set, leb, ltb, Option, Some, None, Result, Ok, Err}
use Rattle.tform.specs.declared.VariableArrayTy.{VariableArrayTy}
use Rattle.tform.specs.declared.VariableArrayTy.TheVariants.{L}
use Rattle.layout.specs.declared.Column.{Column}
use Rattle.layout.specs.declared.BinTable.{BinTable}
use Rattle.refusal.specs.declared.Refusal.{Refusal}
use Rattle.refusal.specs.declared.Refusal.TheVariants as R
use Rattle.layout.specs.Layout.{no_column}
use Rattle.cell.specs.declared.Cell.{Cell}
use Rattle.cell.specs.declared.DataValue.{DataValue}
use Rattle.cell.specs.declared.DataValue.TheVariants as D
use Rattle.cell.specs.declared.Field.{Field}
use Rattle.cell.specs.declared.Field.TheVariants as F
use Rattle.cell.specs.Item.{width}
use Rattle.cell.specs.Field.{no_items, field, size_of}
use Rattle.walk.specs.declared.TableData.{TableData}
use Rattle.walk.specs.declared.Stepped.{Stepped}
use Rattle.walk.specs.Plain.{cell_of, item_at, chosen, row_entries}
use Rattle.walk.specs.declared.Reading.{Reading}
use Rattle.walk.specs.Scaled.{plain}
use Rattle.walk.specs.Readings.{value_as}
use Rattle.walk.specs.Walk.{read_row, placed, grown, Gathered, all_cells, outside, rest}
use Rattle.walk.specs.Step.{belongs, state_of, cursor_at, StepResult, row_result}
use Rattle.table.specs.Scan.{span_of}
use Rattle.row.specs.declared.plan.RowPlan.{RowPlan}
use Rattle.row.specs.declared.plan.FieldPlan.{FieldPlan}

-- ---- a field

-- the value of the entry at index i of a field: an item, a descriptor that is not followed, or an array outside the heap, of which no cell is ever stored
abbrev pub entry_value : Column → List ℕ → Field → ℕ → DataValue
entry_value column a (F.Items ty at n) i = item_at column a ty at i
entry_value column a (F.Descriptor v) i = v
entry_value column a F.OutsideHeap i = D.Bit 0

-- what is left of the field of row r and column c after `skip` entries
abbrev pub plan_of : ℕ → ℕ → Column → ℕ → Field → FieldPlan
plan_of r c column skip f = record { row = r; c = c; column = column; field = f; first = skip; n = size_of f - skip; skip = skip - size_of f }

-- the plan of the field of column c. A column that is not chosen has no entry, so its field is never looked at
unfoldable pub field_plan : List ℕ → RowPlan → Column → ℕ → ℕ → FieldPlan
field_plan a p column c skip =
    plan_of p.cursor.row c column skip
    (cond (chosen p.cursor.choice c) (field a (p.span.start + column.start) column p.span.heap.followed p.span.heap.start p.span.heap.end) (no_items L))

-- a field that has an entry left is an array outside the heap
abbrev pub outside_by : Field → ℕ → Bool
outside_by (F.Items ty at n) k = false
outside_by (F.Descriptor v) k = false
outside_by F.OutsideHeap k = ltb 0 k

abbrev pub is_outside : FieldPlan → Bool
is_outside p = outside_by p.field p.n

-- cell i of a field's plan in a reading, and of one of items that lie from byte `start` on
abbrev pub planned_cell : Reading → List ℕ → FieldPlan → ℕ → Cell
planned_cell m a p i = cell_of p.row p.c (p.first + i) (value_as m p.column.scaling (entry_value p.column a p.field (p.first + i)))

abbrev pub item_cell : Reading → List ℕ → FieldPlan → VariableArrayTy → ℕ → ℕ → Cell
item_cell m a p ty start i = cell_of p.row p.c (p.first + i) (value_as m p.column.scaling (item_at p.column a ty start (p.first + i)))

-- the places of the items with n indexes from `first` on are numbers of 64 bits
abbrev pub ItemsFit : VariableArrayTy → ℕ → ℕ → ℕ → Type 0
ItemsFit ty start first n = (i : ℕ) → i < n → start + (first + i) * width ty < 2 ^ 64

-- so are those of a plan's items; of a descriptor there is one cell, at index 0, and of an array outside the heap none
abbrev pub FieldOk : Field → ℕ → ℕ → Type 0
FieldOk (F.Items ty start k) first n = ItemsFit ty start first n
FieldOk (F.Descriptor v) first n = n ≤ 1
FieldOk F.OutsideHeap first n = n ≡ 0

abbrev pub PlanOk : FieldPlan → Type 0
PlanOk p = FieldOk p.field p.first p.n

-- ---- the list

-- the list with f i at each of the n places from `at` on, stored one after the other
abbrev pub stored_at : (ℕ → Cell) → ℕ → ℕ → List Cell → List Cell
stored_at f at zero ys = ys
stored_at f at (suc n) ys = set (stored_at f at n ys) (at + n) (f n)

module _ (columns : List Column) (a : List ℕ) (p : RowPlan) where
  abbrev pub plan_at : ℕ → ℕ → FieldPlan
  plan_at c skip = field_plan a p (get_or columns c no_column) c skip

  -- the list after the k columns from column c on, in a reading, the first of them stored from `at` on, where `skip` entries are still to be passed
  unfoldable pub filled : Reading → ℕ → ℕ → ℕ → ℕ → List Cell → List Cell
  filled m c zero skip at ys = ys
  filled m c (suc k) skip at ys =
      let f = plan_at c skip in
      filled m (suc c) k f.skip (at + f.n) (stored_at (planned_cell m a f) at f.n ys)

  -- each of these fields can be planned, and its cells lie in a list of m cells
  unfoldable pub RowFits : ℕ → ℕ → ℕ → ℕ → ℕ → Type 0
  RowFits c zero skip at m = Unit {0}
  RowFits c (suc k) skip at m =
      let f = plan_at c skip in
      (p.span.start + (get_or columns c no_column).start < 2 ^ 64) × (PlanOk f × ((at + f.n ≤ m) × RowFits (suc c) k f.skip (at + f.n) m))

-- ---- a row

-- what a row read returned and left in the list, as the result of a step
abbrev pub result_of : Stepped (Option ℕ) → List Cell → StepResult
result_of s list = row_result s.cursor s.answer list

abbrev pub stepped : TableData → Result (Option ℕ) Refusal → Stepped (Option ℕ)
stepped c r = record { cursor = c; answer = r }

-- what is left of a row: how many cells, or the refusal of an array outside the heap
abbrev pub left_of : Gathered → Result ℕ Refusal
left_of (all_cells cs) = Ok (length cs)
left_of (outside k) = Err (R.ArrayOutsideHeap k)

-- the plan of the cursor's row that goes over all columns
abbrev pub plan_for : BinTable → TableData → Stepped (Option ℕ) → RowPlan
plan_for l c s =
    record {
      tfields = l.tfields;
      cursor = c;
      span = span_of l c;
      stepped = s;
    }

-- the plan that stores nothing and leaves the cursor where it is
abbrev pub no_plan : TableData → Result (Option ℕ) Refusal → RowPlan
no_plan c r = record { tfields = 0; cursor = c; span = record { start = 0; heap = record { followed = false; start = 0; end = 0 } }; stepped = stepped c r }

-- the cursor at the next row's start, with n more cells counted
abbrev pub next_row : TableData → ℕ → TableData
next_row c n = cursor_at c.choice c.heap (placed (grown (state_of c) (read_row plain []) n) (suc c.row) 0)

-- the plan for what is left and a list of m cells: 13 comes before 14
abbrev pub rest_plan : BinTable → TableData → ℕ → Result ℕ Refusal → RowPlan
rest_plan l c m (Err r) = no_plan c (Err r)
rest_plan l c m (Ok n) = cond (leb n m) (plan_for l c (stepped (next_row c n) (Ok (Some n)))) (no_plan c (Err (R.ShortList n)))

unfoldable pub row_plan : BinTable → List ℕ → TableData → ℕ → RowPlan
row_plan l a c m =
    cond (belongs l a c)
    (cond (ltb c.row l.naxis2)
    (rest_plan l c m (left_of (rest (row_entries l a c.choice c.heap) l.naxis2 (state_of c))))
    (no_plan c (Ok None)))
    (no_plan c (Err R.Mismatch))
