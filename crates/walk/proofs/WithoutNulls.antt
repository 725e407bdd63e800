-- A table without TNULLn reads as it did before there were nulls: its plain lists, and so every walk over them, are those of
-- the bytes alone.
-- Assumes nothing.
use Rattle.std.specs.Prelude.{None}
use Prim.Native.Nat.{ℕ, zero, suc, ◌+◌, ◌*◌, ◌≤◌, ◌<◌}
use mathlib.Core.Path.{◌≡◌, refl, sym, ap, ap₂, fun_ext, ◌∙◌}
use mathlib.Core.Bool.{Bool}
use mathlib.Core.List.{List, ◌++◌}
use native.Mathlib.Omega.{arith}
use lib.Dec.{ltb}
use lib.IntN.{ℤ}
use Rattle.ascii.proofs.Cases.{by_both}
use Rattle.layout.specs.declared.Null.TheVariants.{Number}
use Rattle.layout.specs.declared.Column.{Column}
use Rattle.layout.specs.declared.BinTable.{BinTable}
use Rattle.bintable.specs.Checks.{tnull_of}
use Rattle.bintable.specs.Entry.{entry, accepted}
use Rattle.bintable.proofs.Nulls.{null_missing}
use Rattle.cell.specs.declared.Field.{Field}
use Rattle.cell.specs.declared.Field.TheVariants as F
use Rattle.cell.specs.Item.{width}
use Rattle.cell.proofs.Nulls.{as_stored}
use Rattle.walk.specs.declared.Entry.{Entry}
use Rattle.walk.specs.Plain.{column_of, field_of, chosen, item_at, entries_of, column_entries, columns_entries, row_entries}
use Rattle.walk.specs.Stored.{stored_item, stored_entries, stored_columns, stored_row}
use Rattle.walk.specs.Walk.{Step, start, walk}
use Rattle.walk.specs.Step.{plain_walk}
use Rattle.walk.proofs.Same.{cells_same}

-- a column whose null is no number of 64 bits
abbrev pub NoNull : Column → Type 0
NoNull column = (m : ℤ) → column.null ≡ Number m → ⊥

module _ (l : BinTable) (a : List ℕ) (choice : ℕ) (heap : Bool) (none : (c : ℕ) → c < l.tfields → NoNull (column_of l c)) where
  entries_stored : (r c : ℕ) (f : Field) → c < l.tfields → entries_of (column_of l c) a r c f ≡ stored_entries a r c f
  unfolding entries_of stored_entries
  entries_stored r c (F.Items ty at n) h =
      cells_same r c (item_at (column_of l c) a ty at) (stored_item a ty at) 0 n
      (λ j u. as_stored (column_of l c) ty a (at + j * width ty) (none c h))
  entries_stored r c (F.Descriptor v) h = refl
  entries_stored r c F.OutsideHeap h = refl

  columns_stored : (r c n : ℕ) → c + n ≤ l.tfields → columns_entries l a choice heap r c n ≡ stored_columns l a choice heap r c n
  unfolding columns_entries column_entries stored_columns
  columns_stored r c zero h = refl
  columns_stored r c (suc n) h =
      ap₂ ◌++◌
      (by_both ◌≡◌ (chosen choice c) (λ e. entries_stored r c (field_of l a heap r c) (omega arith)) (λ e. refl))
      (columns_stored r (suc c) n (omega arith))

  -- the plain lists of all rows, as one function of the row
  pub rows_stored : row_entries l a choice heap ≡ stored_row l a choice heap
  unfolding row_entries stored_row
  rows_stored = fun_ext (λ r. by_both ◌≡◌ (ltb r l.naxis2) (λ e. columns_stored r 0 l.tfields (omega arith)) (λ e. refl))

-- the plain walk of an accepted table without TNULLn, from the header: the walk over the bytes alone
pub as_before : (h a : List ℕ) (l : BinTable) (choice : ℕ) (heap : Bool) (xs : List Step) → entry h a ≡ accepted l
    → ((n : ℕ) → 0 < n → n ≤ l.tfields → tnull_of h n ≡ None)
    → plain_walk l a choice heap xs ≡ walk l (stored_row l a choice heap) l.naxis2 start xs
as_before h a l choice heap xs taken none =
    ap (λ (rows : ℕ → List Entry). walk l rows l.naxis2 start xs)
    (rows_stored l a choice heap
    (λ c p m e. let q = sym (null_missing h a l taken c p (none (c + 1) (omega arith) (omega arith))) ∙ e in cc))
