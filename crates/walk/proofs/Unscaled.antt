-- A scaled step hands out the plain step's own cells of every column whose numbers may not be scaled, and of every column
-- whose descriptors are not followed.
-- Assumes nothing.
use Prim.Native.Nat.{ℕ, zero, suc, ◌+◌, ◌*◌}
use mathlib.Core.Path.{◌≡◌, refl, ap, ◌∙◌}
use mathlib.Core.Bool.{Bool, true, false}
use mathlib.Core.List.{List, [], ◌∷◌, ◌++◌, map}
use native.Mathlib.Omega.{arith}
use lib.ListN.{get_or, take, drop}
use Rattle.layout.specs.declared.BinTable.{BinTable}
use Rattle.layout.specs.Layout.{data_size}
use Rattle.cell.specs.declared.Cell.{Cell}
use Rattle.cell.specs.declared.Field.{Field}
use Rattle.cell.specs.declared.Field.TheVariants as F
use Rattle.cell.specs.Item.{width}
use Rattle.cell.proofs.ScaledLaws.{is_scalable, same_type}
use Rattle.cell.proofs.Elements.{is_unscaled, Suits, field_suits, items_unscaled}
use Rattle.walk.specs.declared.TableData.{TableData}
use Rattle.walk.specs.declared.Reading.{Reading}
use Rattle.walk.specs.declared.Reading.TheVariants.{Plain, Scaled}
use Rattle.walk.specs.Plain.{column_of, field_at, field_of, cell_of, item_at, entries_of, row_entries}
use Rattle.walk.specs.Scaled.{scaled_cell, in_reading}
use Rattle.walk.specs.Walk.{Step, read_cell, read_row, seek, Reply, got_cell, got_row, sought, at_end, refused}
use Rattle.walk.specs.Step.{StepResult, cursor_step}
use Rattle.walk.specs.Readings.{plainly, reading_of, scaled_list, in_result}
use Rattle.walk.proofs.Handed.{OfEntries, OfCells, OfReply, cells_all, rows_all, step_all}
use Rattle.walk.proofs.Readings.{step_in}

-- a value of another type, and a descriptor, is as in the plain reading
pub unscaled_cell : (l : BinTable) (y : Cell) → is_scalable y.value ≡ false → scaled_cell l y ≡ y
unscaled_cell l y e = ap (cell_of y.row y.column y.idx) (same_type (column_of l y.column).scaling y.value e)

module _ (l : BinTable) (heap : Bool) where
  -- whether both readings give the same for the column of a cell
  abbrev pub is_same : Cell → Bool
  is_same y = is_unscaled (column_of l y.column).form heap

  -- and so its value is of no type that is scaled
  abbrev OfNone : Cell → Type 0
  OfNone y = is_same y ≡ true → is_scalable y.value ≡ false

  entries_none : (a : List ℕ) (r c : ℕ) (f : Field) → Suits (column_of l c).form heap f → OfEntries OfNone (entries_of (column_of l c) a r c f)
  unfolding entries_of
  entries_none a r c (F.Items ty at n) s =
      cells_all OfNone r c (item_at (column_of l c) a ty at) 0 n
      (λ k u w e. items_unscaled (column_of l c) ty heap at n k a (at + k * width ty) s (omega (arith, w)) e)
  entries_none a r c (F.Descriptor v) s = (λ e. s, tt)
  entries_none a r c F.OutsideHeap s = (tt, tt)

  row_none : (a : List ℕ) (choice r : ℕ) → OfEntries OfNone (row_entries l a choice heap r)
  unfolding field_of
  row_none a choice r =
      rows_all OfNone l a choice heap
      (λ i c hr hc e. entries_none a i c (field_of l a heap i c) (field_suits a (field_at l i c) (column_of l c) heap l.theap (data_size l))) r

module _ (l : BinTable) (a : List ℕ) (c : TableData) (x : Step) where
  -- the plain step
  abbrev plain_step : StepResult
  plain_step = cursor_step l a c (plainly x)

  plain_none : OfReply (OfNone l c.heap) plain_step.list plain_step.reply
  plain_none = step_all (OfNone l c.heap) l a c (plainly x) (each x)
    where
      each : (y : Step) (r : ℕ) → OfEntries (OfNone l c.heap) (in_reading l (reading_of (plainly y)) (row_entries l a c.choice c.heap) r)
      each (read_cell how) r = row_none l c.heap a c.choice r
      each (read_row how list) r = row_none l c.heap a c.choice r
      each (seek q) r = row_none l c.heap a c.choice r

  cell_same : (m : Reading) (o : StepResult) (y : Cell) → OfReply (OfNone l c.heap) o.list o.reply → o.reply ≡ got_cell y → is_same l c.heap y ≡ true
      → (in_result l m o).reply ≡ got_cell y
  cell_same Plain o y h e t = e
  cell_same Scaled o y h e t = let g : OfNone l c.heap y = rw e at h in rw e (ap got_cell (unscaled_cell l y (g t)))

  -- the cell of an answer
  pub same_cell : (y : Cell) → plain_step.reply ≡ got_cell y → is_same l c.heap y ≡ true → (cursor_step l a c x).reply ≡ got_cell y
  same_cell y e t = ap (λ (o : StepResult). o.reply) (step_in l a c x) ∙ cell_same (reading_of x) plain_step y plain_none e t

  front_same : (k : ℕ) (list : List Cell) (i : ℕ) (d : Cell) → OfCells (OfNone l c.heap) (take k list) → is_same l c.heap (get_or list i d) ≡ true
      → get_or (map (scaled_cell l) (take k list) ++ drop k list) i d ≡ get_or list i d
  front_same zero list i d h t = refl
  front_same (suc k) [] i d h t = refl
  front_same (suc k) (y ∷ list) zero d h t = unscaled_cell l y (h.0 t)
  front_same (suc k) (y ∷ list) (suc i) d h t = front_same k list i d h.1 t

  list_same : (q : Reply) (list : List Cell) (i : ℕ) (d : Cell) → OfReply (OfNone l c.heap) list q → is_same l c.heap (get_or list i d) ≡ true
      → get_or (scaled_list l q list) i d ≡ get_or list i d
  list_same (got_cell y) list i d h t = refl
  list_same (got_row k) list i d h t = front_same k list i d h t
  list_same sought list i d h t = refl
  list_same at_end list i d h t = refl
  list_same (refused n p) list i d h t = refl

  result_same : (m : Reading) (o : StepResult) (i : ℕ) (d : Cell) → OfReply (OfNone l c.heap) o.list o.reply → is_same l c.heap (get_or o.list i d) ≡ true
      → get_or (in_result l m o).list i d ≡ get_or o.list i d
  result_same Plain o i d h t = refl
  result_same Scaled o i d h t = list_same o.reply o.list i d h t

  -- each cell of the list that was lent
  pub same_in_list : (i : ℕ) (d : Cell) → is_same l c.heap (get_or plain_step.list i d) ≡ true
      → get_or (cursor_step l a c x).list i d ≡ get_or plain_step.list i d
  same_in_list i d t =
      ap (λ (o : StepResult). get_or o.list i d) (step_in l a c x) ∙ result_same (reading_of x) plain_step i d plain_none t
