-- A row read that stores by its plan is the step: the plan's fields lie in the list, and the list then holds what the walk says.
-- Assumes nothing.
use Rattle.std.specs.Prelude.{Option}
use Prim.Native.Nat.{ℕ, zero, suc, ◌+◌, ◌-◌, ◌*◌, ◌≤◌, ◌<◌, ◌^◌}
use mathlib.Core.Path.{◌≡◌, refl, sym, ap, subst, ◌∙◌}
use mathlib.Core.Bool.{true, false}
use mathlib.Core.List.{List, [], ◌∷◌, ◌++◌, map, append_assoc}
use native.Mathlib.Nat.{sub-zero, mul-le-mul_right}
use native.Mathlib.Omega.{arith}
use lib.ListN.{length, get_or, set, drop, length-append, length-drop}
use lib.Seq.{drop-nil, drop-cons, drop-drop, set_at}
use lib.Dec.{leb, ltb}
use borrow.Author.Tests.{leb-true, ltb-true, ltb-false}
use Rattle.ascii.proofs.Cases.{by_test, by_both}
use Rattle.layout.specs.declared.Column.{Column}
use Rattle.layout.specs.declared.BinTable.{BinTable}
use Rattle.layout.specs.Layout.{layout_ok, data_limit}
use Rattle.cell.specs.declared.Cell.{Cell}
use Rattle.cell.specs.declared.Field.{Field}
use Rattle.cell.specs.declared.Field.TheVariants as F
use Rattle.cell.specs.Item.{width}
use Rattle.cell.specs.Field.{ItemsInside}
use Rattle.walk.specs.declared.TableData.{TableData}
use Rattle.walk.specs.declared.Stepped.{Stepped}
use Rattle.walk.specs.declared.Entry.{Entry}
use Rattle.walk.specs.Plain.{column_of, field_of, chosen, columns_entries, row_entries}
use Rattle.walk.specs.declared.Reading.{Reading}
use Rattle.walk.specs.declared.Reading.TheVariants.{Plain, Scaled}
use Rattle.walk.specs.declared.How.{How}
use Rattle.walk.specs.Scaled.{scaled_cell, in_reading}
use Rattle.walk.specs.Walk.{read_row, Outcome, Gathered, all_cells, outside, gather, row_outcome, rest, walk_step}
use Rattle.walk.specs.Step.{belongs, state_of, StepResult, with_cursor, cursor_step}
use Rattle.layout.proofs.Sizes.{limits, data_bound}
use Rattle.walk.proofs.Inside.{fits_layout, column_in_row, row_in_main, items_bound}
use Rattle.walk.proofs.Laws.{from_row}
use Rattle.walk.proofs.Readings.{cells_as, length_as, append_as, gathered_as, rest_in}
use Rattle.walk.proofs.Steps.{belongs_fits}
use Rattle.row.specs.declared.plan.RowPlan.{RowPlan}
use Rattle.row.specs.Plan.{result_of, plan_of, field_plan, is_outside, planned_cell, PlanOk, stored_at, filled, RowFits, left_of, plan_for, rest_plan, row_plan}
use Rattle.row.proofs.Fields.{cells_from, cells_length, cells_before, cells_more, before_all, field_on, column_gathered}

-- ---- the list after a field's cells

stored_is : (f : ℕ → Cell) (n : ℕ) (pre zs : List Cell) → n ≤ length zs → stored_at f (length pre) n (pre ++ zs) ≡ pre ++ (cells_from f 0 n ++ drop n zs)
stored_is f zero pre zs h = refl
stored_is f (suc n) pre zs h =
    let front : List Cell = pre ++ cells_from f 0 n in
    let e : length front ≡ length pre + n = length-append pre (cells_from f 0 n) ∙ rw (cells_length f 0 n) in
    ap (λ (ys : List Cell). set ys (length pre + n) (f n))
    (stored_is f n pre zs (omega arith)
    ∙ ap (λ (ys : List Cell). pre ++ (cells_from f 0 n ++ ys)) (drop-cons zs n (f n) h)
    ∙ sym (append_assoc pre (cells_from f 0 n) (get_or zs n (f n) ∷ drop (suc n) zs)))
    ∙ set_at front (get_or zs n (f n)) (drop (suc n) zs) (f n) (length pre + n) e
    ∙ append_assoc pre (cells_from f 0 n) (f n ∷ drop (suc n) zs)
    ∙ ap (λ (ys : List Cell). pre ++ ys)
    (sym (append_assoc (cells_from f 0 n) (f n ∷ []) (drop (suc n) zs))
    ∙ ap (λ (xs : List Cell). xs ++ drop (suc n) zs) (sym (cells_more f n)))

-- and after the cells that follow, which are stored behind them
stored_on : (f : ℕ → Cell) (n : ℕ) (cs : List Cell) (fill : ℕ → List Cell → List Cell)
    → ((pre zs : List Cell) → length cs ≤ length zs → fill (length pre) (pre ++ zs) ≡ pre ++ (cs ++ drop (length cs) zs)) → (pre zs : List Cell)
    → length (cells_from f 0 n ++ cs) ≤ length zs
    → fill (length pre + n) (stored_at f (length pre) n (pre ++ zs)) ≡ pre ++ ((cells_from f 0 n ++ cs) ++ drop (length (cells_from f 0 n ++ cs)) zs)
stored_on f n cs fill d pre zs h =
    let xs : List Cell = cells_from f 0 n in
    let e : length (xs ++ cs) ≡ n + length cs = cells_before f n cs in
    let p : length (pre ++ xs) ≡ length pre + n = length-append pre xs ∙ rw (cells_length f 0 n) in
    ap (fill (length pre + n)) (stored_is f n pre zs (omega (arith, e, h)) ∙ sym (append_assoc pre xs (drop n zs)))
    ∙ ap (λ (i : ℕ). fill i ((pre ++ xs) ++ drop n zs)) (sym p)
    ∙ d (pre ++ xs) (drop n zs) (rw (length-drop n zs) (omega (arith, e, h)))
    ∙ append_assoc pre xs (cs ++ drop (length cs) (drop n zs))
    ∙ ap (λ (ys : List Cell). pre ++ ys)
    (sym (append_assoc xs cs (drop (length cs) (drop n zs)))
    ∙ ap (λ (ys : List Cell). (xs ++ cs) ++ ys) (drop-drop (length cs) n zs ∙ ap (λ (i : ℕ). drop i zs) (sym e)))

-- ---- the plan of a field

-- the places of a field whose items lie inside the data are numbers of 64 bits
field_ok : (r c : ℕ) (column : Column) (skip : ℕ) (f : Field) → ItemsInside data_limit f → is_outside (plan_of r c column skip f) ≡ false → PlanOk (plan_of r c column skip f)
field_ok r c column skip (F.Items ty at n) h e = λ i q.
    let m : skip + i ≤ n = omega (arith, q) in omega (arith, h, mul-le-mul_right (width ty) m)
field_ok r c column skip (F.Descriptor v) h e = omega arith
field_ok r c column skip F.OutsideHeap h e = omega (arith, ltb-false 0 (1 - skip) e)

-- ---- the columns, one after the other

module _ (l : BinTable) (a : List ℕ) (c : TableData) (mode : Reading) (s : Stepped (Option ℕ)) where
  -- what is gathered of the m columns from column k on, without the first `skip` entries
  abbrev gathered : ℕ → ℕ → ℕ → Gathered
  gathered k m skip = gather (drop skip (columns_entries l a c.choice c.heap c.row k m))

  -- the list after them, if they have no array outside the heap: the cells ds, behind those stored before
  abbrev StoresAs : ℕ → ℕ → ℕ → List Cell → Type 0
  StoresAs k m skip ds = (pre zs : List Cell) → length ds ≤ length zs
      → filled l.columns a (plan_for l c s) mode k m skip (length pre) (pre ++ zs) ≡ pre ++ (ds ++ drop (length ds) zs)

  -- they are the plain ones in the reading
  abbrev Stores : ℕ → ℕ → ℕ → Gathered → Type 0
  Stores k m skip (all_cells cs) = StoresAs k m skip (cells_as l mode cs)
  Stores k m skip (outside j) = Unit {0}

  -- so are those of one field
  field_as : (k skip n i : ℕ) → cells_from (planned_cell mode a (field_on l a c s k skip)) i n ≡ cells_as l mode (cells_from (planned_cell Plain a (field_on l a c s k skip)) i n)
  unfolding field_plan
  field_as k skip n i = go mode
    where
      each : (j m : ℕ) → cells_from (planned_cell Scaled a (field_on l a c s k skip)) j m ≡ map (scaled_cell l) (cells_from (planned_cell Plain a (field_on l a c s k skip)) j m)
      each j zero = refl
      each j (suc m) = ap (λ (xs : List Cell). planned_cell Scaled a (field_on l a c s k skip) j ∷ xs) (each (suc j) m)

      go : (t : Reading) → cells_from (planned_cell t a (field_on l a c s k skip)) i n ≡ cells_as l t (cells_from (planned_cell Plain a (field_on l a c s k skip)) i n)
      go Plain = refl
      go Scaled = each i n

  more_as : (k skip n : ℕ) (cs : List Cell) → cells_from (planned_cell mode a (field_on l a c s k skip)) 0 n ++ cells_as l mode cs
      ≡ cells_as l mode (cells_from (planned_cell Plain a (field_on l a c s k skip)) 0 n ++ cs)
  more_as k skip n cs = ap (λ (xs : List Cell). xs ++ cells_as l mode cs) (field_as k skip n 0) ∙ append_as l mode _ cs

  stores_on : (k m skip : ℕ) (g : Gathered) → Stores (suc k) m (field_on l a c s k skip).skip g
      → Stores k (suc m) skip (before_all (cells_from (planned_cell Plain a (field_on l a c s k skip)) 0 (field_on l a c s k skip).n) g)
  unfolding filled
  stores_on k m skip (all_cells cs) d =
      let f = field_on l a c s k skip in
      subst (StoresAs k (suc m) skip) (more_as k skip f.n cs)
      (stored_on (planned_cell mode a f) f.n (cells_as l mode cs) (filled l.columns a (plan_for l c s) mode (suc k) m f.skip) d)
  stores_on k m skip (outside j) d = tt

  stores : (m k skip : ℕ) → Stores k m skip (gathered k m skip)
  unfolding columns_entries filled gather
  stores zero k skip = rw (drop-nil {A = Entry} skip) (none_as mode)
    where
      none_as : (t : Reading) (pre zs : List Cell) → length (cells_as l t []) ≤ length zs → pre ++ zs ≡ pre ++ (cells_as l t [] ++ drop (length (cells_as l t [])) zs)
      none_as Plain pre zs h = refl
      none_as Scaled pre zs h = refl
  stores (suc m) k skip =
      rw (column_gathered l a c s k skip (columns_entries l a c.choice c.heap c.row (suc k) m))
      (let p = (field_on l a c s k skip).skip in
      by_test (Stores k (suc m) skip) (is_outside (field_on l a c s k skip)) (λ t. tt) (λ t. stores_on k m skip (gathered (suc k) m p) (stores m (suc k) p)))

  -- the fields can be planned and their cells lie in a list of n cells, if the cells stored before and these do
  abbrev Fits : ℕ → ℕ → ℕ → Gathered → Type 0
  Fits k m skip (all_cells cs) = (i n : ℕ) → i + length cs ≤ n → RowFits l.columns a (plan_for l c s) k m skip i n
  Fits k m skip (outside j) = Unit {0}

  module _ (ok : layout_ok l ≡ true) (hr : c.row < l.naxis2) where
    pub start_fits : (k : ℕ) → k < l.tfields → c.row * l.naxis1 + (column_of l k).start < 2 ^ 64
    start_fits k h = omega (arith, column_in_row l ok k h, row_in_main l ok c.row hr, data_bound l ok)

    plan_ok : (k skip : ℕ) → k < l.tfields → is_outside (field_on l a c s k skip) ≡ false → PlanOk (field_on l a c s k skip)
    unfolding field_plan field_of
    plan_ok k skip h =
        by_test (λ (f : Field). is_outside (plan_of c.row k (column_of l k) skip f) ≡ false → PlanOk (plan_of c.row k (column_of l k) skip f)) (chosen c.choice k)
        (λ t. field_ok c.row k (column_of l k) skip (field_of l a c.heap c.row k) (items_bound l ok a c.heap c.row k hr h))
        (λ t e i q. absurd (omega (arith, q)))

    fits_on : (k m skip : ℕ) (g : Gathered) → k < l.tfields → is_outside (field_on l a c s k skip) ≡ false → Fits (suc k) m (field_on l a c s k skip).skip g
        → Fits k (suc m) skip (before_all (cells_from (planned_cell Plain a (field_on l a c s k skip)) 0 (field_on l a c s k skip).n) g)
    unfolding RowFits
    fits_on k m skip (all_cells cs) h t d = λ i n q.
        let f = field_on l a c s k skip in
        let e = cells_before (planned_cell Plain a f) f.n cs in
        (start_fits k h, (plan_ok k skip h t, (omega (arith, e, q), d (i + f.n) n (omega (arith, e, q)))))
    fits_on k m skip (outside j) h t d = tt

    all_fit : (m k skip : ℕ) → k + m ≤ l.tfields → Fits k m skip (gathered k m skip)
    unfolding columns_entries RowFits gather
    all_fit zero k skip h = rw (drop-nil {A = Entry} skip) (λ i n q. tt)
    all_fit (suc m) k skip h =
        rw (column_gathered l a c s k skip (columns_entries l a c.choice c.heap c.row (suc k) m))
        (let p = (field_on l a c s k skip).skip in
        by_test (Fits k (suc m) skip) (is_outside (field_on l a c s k skip)) (λ t. tt)
        (λ t. fits_on k m skip (gathered (suc k) m p) (omega (arith, h)) t (all_fit m (suc k) p (omega (arith, h)))))

-- ---- the plan of a row

module _ (l : BinTable) (a : List ℕ) (c : TableData) (how : How) (list : List Cell) where
  -- the list after the fields of a plan
  abbrev done : RowPlan → List Cell
  done p = filled l.columns a p how.reading 0 p.tfields p.cursor.passed 0 list

  abbrev rows : ℕ → List Entry
  rows = row_entries l a c.choice c.heap

  -- what the row read by a plan comes to, and that the plan can be followed
  abbrev Follows : RowPlan → StepResult → Type 0
  Follows p r = (result_of p.stepped (done p) ≡ r) × ((p.tfields ≤ 64) × RowFits l.columns a p 0 p.tfields p.cursor.passed 0 (length list))

  -- a plan that goes over all columns
  follows_all : layout_ok l ≡ true → (cs : List Cell) → length cs ≤ length list
      → ((s : Stepped (Option ℕ)) → Stores l a c how.reading s 0 l.tfields c.passed (all_cells cs) × Fits l a c how.reading s 0 l.tfields c.passed (all_cells cs))
      → (s : Stepped (Option ℕ)) (r : StepResult)
      → result_of s (cells_as l how.reading cs ++ drop (length (cells_as l how.reading cs)) list) ≡ r → Follows (plan_for l c s) r
  follows_all ok cs h d s r e =
      (ap (result_of s) ((d s).0 [] list (omega (arith, h, length_as l how.reading cs))) ∙ e, ((limits l ok).columns, (d s).1 0 (length list) (omega (arith, h))))

  -- for what is left of the row
  follows_rest : layout_ok l ≡ true → (g : Gathered) → ((s : Stepped (Option ℕ)) → Stores l a c how.reading s 0 l.tfields c.passed g × Fits l a c how.reading s 0 l.tfields c.passed g)
      → Follows (rest_plan l c (length list) (left_of g))
      (with_cursor c.choice c.heap (row_outcome (in_reading l how.reading rows) l.naxis2 (state_of c) how list (gathered_as l how.reading g)))
  unfolding filled RowFits
  follows_rest ok (outside k) d = (refl, (omega arith, tt))
  follows_rest ok (all_cells cs) d =
      rw (length_as l how.reading cs)
      (by_both (λ (p : RowPlan) (o : Outcome). Follows p (with_cursor c.choice c.heap o)) (leb (length cs) (length list))
      (λ t. follows_all ok cs (leb-true (length cs) (length list) t) d _ _ (rw (length_as l how.reading cs)))
      (λ t. (refl, (omega arith, tt))))

  left : belongs l a c ≡ true → c.row < l.naxis2 → (s : Stepped (Option ℕ))
      → Stores l a c how.reading s 0 l.tfields c.passed (rest rows l.naxis2 (state_of c)) × Fits l a c how.reading s 0 l.tfields c.passed (rest rows l.naxis2 (state_of c))
  left t h s =
      rw (from_row l a c.choice c.heap c.row h, sub-zero l.tfields) (
        stores l a c how.reading s l.tfields 0 c.passed,
        all_fit l a c how.reading s (fits_layout l a (belongs_fits l a c t)) h l.tfields 0 c.passed (omega arith),
      )

  -- for any cursor
  follows : Follows (row_plan l a c (length list)) (cursor_step l a c (read_row how list))
  unfolding row_plan cursor_step walk_step filled RowFits
  follows =
      by_both Follows (belongs l a c)
      (λ t.
      by_both (λ (p : RowPlan) (o : Outcome). Follows p (with_cursor c.choice c.heap o)) (ltb c.row l.naxis2)
      (λ u. rw (rest_in l rows l.naxis2 how.reading (state_of c))
      (follows_rest (fits_layout l a (belongs_fits l a c t)) (rest rows l.naxis2 (state_of c)) (left t (ltb-true c.row l.naxis2 u))))
      (λ u. (refl, (omega arith, tt))))
      (λ t. (refl, (omega arith, tt)))

  -- ---- what the row read cites

  pub plan_columns : (row_plan l a c (length list)).tfields ≤ 64
  plan_columns = follows.1.0

  pub plan_fits : RowFits l.columns a (row_plan l a c (length list)) 0 (row_plan l a c (length list)).tfields (row_plan l a c (length list)).cursor.passed 0 (length list)
  plan_fits = follows.1.1

  pub plan_stored : result_of (row_plan l a c (length list)).stepped (filled l.columns a (row_plan l a c (length list)) how.reading 0 (row_plan l a c (length list)).tfields (row_plan l a c (length list)).cursor.passed 0 list) ≡ cursor_step l a c (read_row how list)
  plan_stored = follows.0
