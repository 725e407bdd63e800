-- What it is for a cell to be rightly unset or not, by the header and by its item's bytes (FORMAT.md, section 11).
-- proofs/ColumnNulls shows that every cell that a step hands out is.
-- Assumes nothing.
use Rattle.std.specs.Prelude.{ℕ, ◌+◌, ◌*◌, ◌≡◌, ◌↔◌, Bool, true, List, ℤ, Option, Some, None}
use Rattle.tform.specs.Width.{can_have_null}
use Rattle.layout.specs.declared.BinTable.{BinTable}
use Rattle.bintable.specs.Checks.{null_number}
use Rattle.cell.specs.declared.DataValue.TheVariants.{Unset}
use Rattle.cell.specs.declared.Cell.{Cell}
use Rattle.cell.specs.declared.Field.{Field}
use Rattle.cell.specs.declared.Field.TheVariants as F
use Rattle.cell.specs.Item.{width, raw_item, stored_number}
use Rattle.walk.specs.Plain.{column_of, field_of}

-- the stored number of the item at an index of a field; only items of B, I, J and K have one
abbrev pub stored_in : List ℕ → Field → ℕ → Option ℤ
stored_in a (F.Items ty at n) i = stored_number (raw_item ty a (at + i * width ty))
stored_in a (F.Descriptor v) i = None
stored_in a F.OutsideHeap i = None

-- that of the item that a cell is of
abbrev pub stored_of : BinTable → List ℕ → Bool → Cell → Option ℤ
stored_of l a heap y = stored_in a (field_of l a heap y.row y.column) y.idx

-- a cell is unset just where its column's items are of B, I, J or K, TNULLn gives an integer and this is the stored number of
-- its item
abbrev pub UnsetRightly : List ℕ → BinTable → List ℕ → Bool → Cell → Type 0
UnsetRightly h l a heap y =
    (y.value ≡ Unset)
    ↔ ((z : ℤ) × (can_have_null (column_of l y.column).form ≡ true) × (null_number h (y.column + 1) ≡ Some z)
    × (stored_of l a heap y ≡ Some z))
