-- In every cell that a step hands out each float is the float of the bits beside it.
-- Assumes nothing.
use Prim.Native.Nat.{ℕ, ◌+◌, ◌*◌}
use mathlib.Core.Path.{◌≡◌, refl}
use mathlib.Core.List.{List}
use Rattle.layout.specs.declared.Column.{Column}
use Rattle.layout.specs.declared.BinTable.{BinTable}
use Rattle.layout.specs.Layout.{data_size}
use Rattle.cell.specs.declared.DataValue.{DataValue}
use Rattle.cell.specs.declared.Cell.{Cell}
use Rattle.cell.specs.declared.Field.{Field}
use Rattle.cell.specs.declared.Field.TheVariants as F
use Rattle.cell.specs.Item.{width, BitsKept}
use Rattle.cell.proofs.Kept.{item_kept, field_kept}
use Rattle.cell.proofs.ScaledLaws.{scaled_bits}
use Rattle.walk.specs.declared.TableData.{TableData}
use Rattle.walk.specs.declared.Reading.{Reading}
use Rattle.walk.specs.Plain.{column_of, field_at, field_of, item_at, entries_of, row_entries}
use Rattle.walk.specs.Walk.{Step}
use Rattle.walk.specs.Step.{cursor_step}
use Rattle.walk.specs.Readings.{reading_of}
use Rattle.walk.proofs.Handed.{OfEntries, OfReply, cells_all, rows_all, rows_in, step_all}

abbrev pub Kept : Cell → Type 0
Kept x = BitsKept x.value

entries_kept : (column : Column) (a : List ℕ) (r c : ℕ) (f : Field) → ((v : DataValue) → f ≡ F.Descriptor v → BitsKept v)
    → OfEntries Kept (entries_of column a r c f)
unfolding entries_of
entries_kept column a r c (F.Items ty at n) h =
    cells_all Kept r c (item_at column a ty at) 0 n (λ k u w. item_kept column ty a (at + k * width ty))
entries_kept column a r c (F.Descriptor v) h = (h v refl, tt)
entries_kept column a r c F.OutsideHeap h = (tt, tt)

-- every step, of any cursor on any layout and area
pub handed_kept : (l : BinTable) (a : List ℕ) (c : TableData) (x : Step) → OfReply Kept (cursor_step l a c x).list (cursor_step l a c x).reply
unfolding field_of
handed_kept l a c x =
    step_all Kept l a c x
    (rows_in (λ (m : Reading). Kept) l (row_entries l a c.choice c.heap)
    (λ (y : Cell). scaled_bits (column_of l y.column).scaling y.value)
    (rows_all Kept l a c.choice c.heap
    (λ r k hr hk e.
    entries_kept (column_of l k) a r k (field_of l a c.heap r k)
    (field_kept a (field_at l r k) (column_of l k) c.heap l.theap (data_size l))))
    (reading_of x))
