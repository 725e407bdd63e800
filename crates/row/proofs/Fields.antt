-- The entries of a row, field by field, are what the plans of its fields give: a field's cells are those of its plan, and an array outside the heap is
-- found at the first entry that is left of it.
-- Assumes nothing.
use Rattle.std.specs.Prelude.{Option}
use Prim.Native.Nat.{ℕ, zero, suc, ◌+◌, ◌-◌}
use mathlib.Core.Path.{◌≡◌, refl, sym, ap, ◌∙◌}
use mathlib.Core.Bool.{cond}
use mathlib.Core.List.{List, [], ◌∷◌, ◌++◌}
use native.Mathlib.Nat.{add-zero, zero-add, add-suc, suc-add, zero-sub, sub-zero, suc-sub-suc}
use native.Mathlib.Omega.{arith}
use lib.ListN.{length, drop, length-append}
use Rattle.ascii.proofs.Cases.{by_both}
use Rattle.layout.specs.declared.Column.{Column}
use Rattle.layout.specs.declared.BinTable.{BinTable}
use Rattle.cell.specs.declared.Cell.{Cell}
use Rattle.cell.specs.declared.DataValue.{DataValue}
use Rattle.cell.specs.declared.Field.{Field}
use Rattle.cell.specs.declared.Field.TheVariants as F
use Rattle.cell.specs.Field.{field, size_of}
use Rattle.walk.specs.declared.TableData.{TableData}
use Rattle.walk.specs.declared.Stepped.{Stepped}
use Rattle.walk.specs.declared.Entry.{Entry}
use Rattle.walk.specs.declared.Entry.TheVariants as E
use Rattle.walk.specs.Plain.{column_of, field_of, cell_of, item_at, cells, entries_of, chosen, column_entries, column_size}
use Rattle.walk.specs.Walk.{Gathered, all_cells, outside, before, gather}
use Rattle.row.specs.declared.plan.FieldPlan.{FieldPlan}
use Rattle.walk.specs.declared.Reading.TheVariants.{Plain}
use Rattle.row.specs.Plan.{plan_of, field_plan, is_outside, planned_cell, plan_at, plan_for}

-- ---- some cells

-- f i, f (i + 1), .. , n of them
abbrev pub cells_from : (ℕ → Cell) → ℕ → ℕ → List Cell
cells_from f i zero = []
cells_from f i (suc n) = f i ∷ cells_from f (suc i) n

pub cells_length : (f : ℕ → Cell) (i n : ℕ) → length (cells_from f i n) ≡ n
cells_length f i zero = refl
cells_length f i (suc n) = ap suc (cells_length f (suc i) n)

pub cells_before : (f : ℕ → Cell) (n : ℕ) (cs : List Cell) → length (cells_from f 0 n ++ cs) ≡ n + length cs
cells_before f n cs = length-append (cells_from f 0 n) cs ∙ rw (cells_length f 0 n)

cells_last : (f : ℕ → Cell) (i n : ℕ) → cells_from f i (suc n) ≡ cells_from f i n ++ (f (i + n) ∷ [])
cells_last f i zero = rw add-zero
cells_last f i (suc n) = rw (add-suc i n, ← suc-add i n) (ap (λ (xs : List Cell). f i ∷ xs) (cells_last f (suc i) n))

pub cells_more : (f : ℕ → Cell) (n : ℕ) → cells_from f 0 (suc n) ≡ cells_from f 0 n ++ (f n ∷ [])
cells_more f n = cells_last f 0 n ∙ rw (zero-add n)

cells_later : (f : ℕ → Cell) (k i n : ℕ) → cells_from (λ j. f (k + j)) i n ≡ cells_from f (k + i) n
cells_later f k i zero = refl
cells_later f k i (suc n) = ap (λ (xs : List Cell). f (k + i) ∷ xs) (cells_later f k (suc i) n ∙ rw (add-suc k i))

-- ---- cells before what was gathered

abbrev pub before_all : List Cell → Gathered → Gathered
before_all xs (all_cells cs) = all_cells (xs ++ cs)
before_all xs (outside k) = outside k

none_before : (g : Gathered) → before_all [] g ≡ g
none_before (all_cells cs) = refl
none_before (outside k) = refl

one_before : (x : Cell) (xs : List Cell) (g : Gathered) → before x (before_all xs g) ≡ before_all (x ∷ xs) g
one_before x xs (all_cells cs) = refl
one_before x xs (outside k) = refl

-- ---- the entries of a field

module _ (r c : ℕ) (v : ℕ → DataValue) where
  cells_drop : (i n j : ℕ) (es : List Entry) → drop j (cells r c v i n ++ es) ≡ cells r c v (i + j) (n - j) ++ drop (j - n) es
  unfolding cells
  cells_drop i zero j es = rw (zero-sub j, sub-zero j)
  cells_drop i (suc n) zero es = rw (add-zero i, zero-sub (suc n), sub-zero (suc n))
  cells_drop i (suc n) (suc j) es = rw (suc-sub-suc n j, suc-sub-suc j n, add-suc i j, ← suc-add i j) (cells_drop (suc i) n j es)

  cells_gathered : (i n : ℕ) (es : List Entry) → gather (cells r c v i n ++ es) ≡ before_all (cells_from (λ j. cell_of r c j (v j)) i n) (gather es)
  unfolding cells gather
  cells_gathered i zero es = sym (none_before (gather es))
  cells_gathered i (suc n) es = ap (before (cell_of r c i (v i))) (cells_gathered (suc i) n es) ∙ one_before _ _ (gather es)

-- what is gathered of the field of column c by its plan f, and of the entries es after it
abbrev pub gather_by : List ℕ → ℕ → FieldPlan → List Entry → Gathered
gather_by a c f es = cond (is_outside f) (outside c) (before_all (cells_from (planned_cell Plain a f) 0 f.n) (gather (drop f.skip es)))

none_left : (j : ℕ) → 1 - suc j ≡ 0
none_left j = omega arith

one_less : (j : ℕ) → suc j - 1 ≡ j
one_less j = omega arith

-- a field of one cell
one_gathered : (f : ℕ → Cell) (skip : ℕ) (es : List Entry) → gather (drop skip (E.Cell (f 0) ∷ es)) ≡ before_all (cells_from (λ i. f (skip + i)) 0 (1 - skip)) (gather (drop (skip - 1) es))
unfolding gather
one_gathered f zero es = ap (before (f 0)) (sym (none_before (gather es))) ∙ one_before (f 0) [] (gather es)
one_gathered f (suc j) es = rw (none_left j, one_less j, none_before (gather (drop j es)))

field_gathered : (column : Column) (a : List ℕ) (r c : ℕ) (f : Field) (skip : ℕ) (es : List Entry)
    → gather (drop skip (entries_of column a r c f ++ es)) ≡ gather_by a c (plan_of r c column skip f) es
unfolding entries_of gather
field_gathered column a r c (F.Items ty at n) skip es =
    ap gather (cells_drop r c (item_at column a ty at) 0 n skip es)
    ∙ cells_gathered r c (item_at column a ty at) (0 + skip) (n - skip) (drop (skip - n) es)
    ∙ ap (λ (xs : List Cell). before_all xs (gather (drop (skip - n) es)))
    (rw (zero-add skip, cells_later (λ i. cell_of r c i (item_at column a ty at i)) skip 0 (n - skip), add-zero skip))
field_gathered column a r c (F.Descriptor v) skip es = one_gathered (λ i. cell_of r c i v) skip es
field_gathered column a r c F.OutsideHeap zero es = refl
field_gathered column a r c F.OutsideHeap (suc j) es = rw (none_left j, one_less j, none_before (gather (drop j es)))

-- ---- and of a column

module _ (l : BinTable) (a : List ℕ) (c : TableData) (s : Stepped (Option ℕ)) where
  -- the plan of column k, where `skip` entries are still to be passed
  abbrev pub field_on : ℕ → ℕ → FieldPlan
  field_on k skip = plan_at l.columns a (plan_for l c s) k skip

  pub plan_n : (k skip : ℕ) → (field_on k skip).n ≡ column_size l a c.choice c.heap c.row k - skip
  unfolding field_plan field_of
  plan_n k skip = by_both (λ (f : Field) (n : ℕ). size_of f - skip ≡ n - skip) (chosen c.choice k) (λ t. refl) (λ t. refl)

  pub column_gathered : (k skip : ℕ) (es : List Entry)
      → gather (drop skip (column_entries l a c.choice c.heap c.row k ++ es)) ≡ gather_by a k (field_on k skip) es
  unfolding column_entries field_plan field_of field gather
  column_gathered k skip es =
      by_both (λ (xs : List Entry) (f : Field). gather (drop skip (xs ++ es)) ≡ gather_by a k (plan_of c.row k (column_of l k) skip f) es) (chosen c.choice k)
      (λ t. field_gathered (column_of l k) a c.row k _ skip es)
      (λ t. rw (zero-sub skip, sub-zero skip, none_before (gather (drop skip es))))
