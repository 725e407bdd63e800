-- Every cell that a step hands out is the item, or the descriptor, of its own row, column and index: no cell comes from the neighbouring column.
-- Assumes nothing.
use Prim.Native.Nat.{ℕ, ◌<◌}
use mathlib.Core.Path.{◌≡◌, refl, ap}
use mathlib.Core.Bool.{Bool, true}
use mathlib.Core.List.{List}
use native.Mathlib.Omega.{arith}
use Rattle.layout.specs.declared.BinTable.{BinTable}
use Rattle.cell.specs.declared.Cell.{Cell}
use Rattle.cell.specs.declared.Field.{Field}
use Rattle.cell.specs.declared.Field.TheVariants as F
use Rattle.cell.specs.Field.{size_of}
use Rattle.walk.specs.declared.TableData.{TableData}
use Rattle.walk.specs.declared.Entry.TheVariants as E
use Rattle.walk.specs.declared.Reading.{Reading}
use Rattle.walk.specs.declared.Reading.TheVariants.{Plain, Scaled}
use Rattle.walk.specs.Plain.{column_of, field_of, item_at, entries_of, entry_in, chosen, row_entries}
use Rattle.walk.specs.Scaled.{scaled_cell, scaled_entry}
use Rattle.walk.specs.Readings.{entry_as, reading_of}
use Rattle.walk.specs.Walk.{Step}
use Rattle.walk.specs.Step.{cursor_step}
use Rattle.walk.proofs.Handed.{OfEntries, OfReply, cells_all, rows_all, rows_in, step_all}

-- the cell's row and column are the table's, the column is chosen, its index is one of the field's, and it is the entry there,
-- in the reading of the step
pub record Own (l : BinTable) (a : List ℕ) (choice : ℕ) (heap : Bool) (m : Reading) (x : Cell) : Type 0 where
  pub in_rows : x.row < l.naxis2
  pub in_columns : x.column < l.tfields
  pub in_choice : chosen choice x.column ≡ true
  pub in_field : x.idx < size_of (field_of l a heap x.row x.column)
  pub is_entry : E.Cell x ≡ entry_as l m (entry_in (column_of l x.column) a x.row x.column (field_of l a heap x.row x.column) x.idx)

module _ (l : BinTable) (a : List ℕ) (choice : ℕ) (heap : Bool) (r c : ℕ) (hr : r < l.naxis2) (hc : c < l.tfields) (e : chosen choice c ≡ true) where
  entries_own : (f : Field) → field_of l a heap r c ≡ f → OfEntries (Own l a choice heap Plain) (entries_of (column_of l c) a r c f)
  unfolding entries_of
  entries_own (F.Items ty at n) q =
      cells_all (Own l a choice heap Plain) r c (item_at (column_of l c) a ty at) 0 n
      (λ k u w. record { in_rows = hr; in_columns = hc; in_choice = e; in_field = rw q (omega (arith, w)); is_entry = rw q })
  entries_own (F.Descriptor v) q =
      (record { in_rows = hr; in_columns = hc; in_choice = e; in_field = rw q (omega arith); is_entry = rw q }, tt)
  entries_own F.OutsideHeap q = (tt, tt)

-- a scaled cell is the entry of the plain one, scaled
own_scaled : (l : BinTable) (a : List ℕ) (choice : ℕ) (heap : Bool) (x : Cell) → Own l a choice heap Plain x → Own l a choice heap Scaled (scaled_cell l x)
own_scaled l a choice heap x o =
    record { in_rows = o.in_rows; in_columns = o.in_columns; in_choice = o.in_choice; in_field = o.in_field; is_entry = ap (scaled_entry l) o.is_entry }

-- every step, of any cursor on any layout and area
pub handed_own : (l : BinTable) (a : List ℕ) (c : TableData) (x : Step)
    → OfReply (Own l a c.choice c.heap (reading_of x)) (cursor_step l a c x).list (cursor_step l a c x).reply
handed_own l a c x =
    step_all (Own l a c.choice c.heap (reading_of x)) l a c x
    (rows_in (Own l a c.choice c.heap) l (row_entries l a c.choice c.heap) (own_scaled l a c.choice c.heap)
    (rows_all (Own l a c.choice c.heap Plain) l a c.choice c.heap
    (λ r k hr hk e. entries_own l a c.choice c.heap r k hr hk e (field_of l a c.heap r k) refl))
    (reading_of x))
