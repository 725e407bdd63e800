-- A row without descriptors, read from its start: all of its entries are cells, so one pass over the columns gives its
-- plan.
-- Assumes nothing.
use Rattle.std.specs.Prelude.{Ok}
use Prim.Native.Nat.{ℕ, zero, suc, ◌-◌, ◌<◌}
use mathlib.Core.Path.{◌≡◌, refl}
use mathlib.Core.Bool.{Bool, true, false, cond}
use mathlib.Core.List.{List, [], ◌++◌}
use native.Mathlib.Omega.{arith}
use lib.ListN.{length}
use borrow.Author.Tests.{eq-eqb, eqb-true}
use Rattle.tform.specs.declared.TFormType.{TFormType}
use Rattle.tform.specs.declared.TFormType.TheVariants as T
use Rattle.tform.specs.Width.{items, field_items}
use Rattle.layout.specs.declared.Column.{Column}
use Rattle.layout.specs.declared.BinTable.{BinTable}
use Rattle.layout.specs.Layout.{columns_of, data_size}
use Rattle.cell.specs.declared.Cell.{Cell}
use Rattle.cell.specs.declared.DataValue.{DataValue}
use Rattle.cell.specs.Field.{field_by, field, size_of}
use Rattle.walk.specs.declared.TableData.{TableData}
use Rattle.walk.specs.declared.Entry.{Entry}
use Rattle.walk.specs.Plain.{column_of, field_at, field_of, item_at, cells, entries_of, chosen, column_entries, columns_entries, column_size, row_entries}
use Rattle.walk.specs.Walk.{Gathered, all_cells, outside, before, gather, rest}
use Rattle.walk.specs.Step.{state_of}
use Rattle.walk.proofs.Laws.{from}
use Rattle.table.specs.Scan.{no_descriptor, plain_column}
use Rattle.table.proofs.Scanned.{Summed, Ready, summed_row, summed_size, summed_belongs}
use Rattle.row.specs.Plan.{left_of, rest_plan, row_plan}

-- all of these entries are cells
abbrev pub AllCells : List Entry → Type 0
AllCells es = left_of (gather es) ≡ Ok (length es)

one_more : (x : Cell) (g : Gathered) (n : ℕ) → left_of g ≡ Ok n → left_of (before x g) ≡ Ok (suc n)
one_more x (all_cells cs) n e = cc
one_more x (outside k) n e = cc

cells_all : (r c : ℕ) (v : ℕ → DataValue) (i n : ℕ) (es : List Entry) → AllCells es → AllCells (cells r c v i n ++ es)
unfolding cells gather
cells_all r c v i zero es e = e
cells_all r c v i (suc n) es e = one_more _ (gather (cells r c v (suc i) n ++ es)) _ (cells_all r c v (suc i) n es e)

-- ---- a field without a descriptor, if its column is chosen

module _ (a : List ℕ) (p : ℕ) (heap : Bool) (theap end : ℕ) where
  no_descriptor_size : (t : Bool) (f : TFormType) (n : ℕ) → cond t (no_descriptor f n) true ≡ true
      → cond t (field_items f n) 0 ≡ cond t (size_of (field_by a p f n heap theap end)) 0
  no_descriptor_size false f n e = refl
  no_descriptor_size true (T.Items ty) n e = refl
  no_descriptor_size true (T.P ty) n e = rw (eqb-true n 0 e)
  no_descriptor_size true (T.Q ty) n e = rw (eqb-true n 0 e)

  no_descriptor_all : (column : Column) (r c : ℕ) (t : Bool) (f : TFormType) (n : ℕ)
      → cond t (no_descriptor f n) true ≡ true → (es : List Entry) → AllCells es
      → AllCells (cond t (entries_of column a r c (field_by a p f n heap theap end)) [] ++ es)
  unfolding entries_of cells
  no_descriptor_all column r c false f n e es w = w
  no_descriptor_all column r c true (T.Items ty) n e es w = cells_all r c (item_at column a ty p) 0 (items ty n) es w
  no_descriptor_all column r c true (T.P ty) n e es w = rw e w
  no_descriptor_all column r c true (T.Q ty) n e es w = rw e w

module _ (l : BinTable) (a : List ℕ) (choice : ℕ) (heap : Bool) (r k : ℕ) (e : plain_column (column_of l k) (chosen choice k) ≡ true) where
  pub plain_size : cond (chosen choice k) (field_items (column_of l k).form (column_of l k).count) 0 ≡ column_size l a choice heap r k
  unfolding field_of field
  plain_size =
      no_descriptor_size a (field_at l r k) heap l.theap (data_size l) (chosen choice k) (column_of l k).form (column_of l k).count e

  pub plain_all : k < l.tfields → AllCells (from l a choice heap r (suc k)) → AllCells (from l a choice heap r k)
  unfolding columns_entries column_entries field_of field
  plain_all h w =
      let q : l.tfields - k ≡ suc (l.tfields - suc k) = omega (arith, h) in
      rw q
      (no_descriptor_all a (field_at l r k) heap l.theap (data_size l) (column_of l k) r k (chosen choice k) (column_of l k).form
      (column_of l k).count e (from l a choice heap r (suc k)) w)

-- ---- the row

module _ (l : BinTable) (a : List ℕ) (c : TableData) (at n m : ℕ) (full : length (columns_of l) ≡ l.tfields) (y : Ready l a c.choice c.row)
    (w : Summed l a c.choice c.heap c.row l.tfields at n) (ends : at ≡ l.naxis1) (none : c.passed ≡ 0)
    (all : AllCells (from l a c.choice c.heap c.row 0)) where
  left : left_of (rest (row_entries l a c.choice c.heap) l.naxis2 (state_of c)) ≡ Ok n
  left =
      rw (none, ← summed_size l a c at n full y w ends, summed_row l a c at n full y w ends) all

  pub plain_plan : row_plan l a c m ≡ rest_plan l c m (Ok n)
  unfolding row_plan
  plain_plan = rw (summed_belongs l a c at n full y w ends (rw (eq-eqb c.passed 0 none)), y.in_table, left)
