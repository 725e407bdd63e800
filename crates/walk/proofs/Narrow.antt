-- The plain list of a choice is that of all columns with the entries of the other columns struck out, in the same
-- order, 13s included: row by row, and for the rows one after the other, in both readings.
-- Assumes nothing.
use Prim.Native.Nat.{ℕ, zero, suc, ◌+◌, ◌≤◌, ◌<◌}
use mathlib.Core.Path.{◌≡◌, refl, sym, ap, ap₂, ◌∙◌}
use mathlib.Core.Bool.{Bool, true, false}
use mathlib.Core.List.{List, [], ◌∷◌, ◌++◌, map}
use native.Mathlib.Omega.{arith}
use lib.Dec.{ltb}
use borrow.Author.Tests.{lt-ltb}
use Rattle.ascii.proofs.Cases.{either}
use Rattle.bintable.specs.Entry.{accepted, entry}
use Rattle.layout.specs.declared.Column.{Column}
use Rattle.layout.specs.declared.BinTable.{BinTable}
use Rattle.cell.specs.declared.DataValue.{DataValue}
use Rattle.cell.specs.declared.Field.{Field}
use Rattle.cell.specs.declared.Field.TheVariants as F
use Rattle.walk.specs.declared.Entry.{Entry}
use Rattle.walk.specs.declared.Entry.TheVariants as E
use Rattle.walk.specs.declared.Reading.{Reading}
use Rattle.walk.specs.declared.Reading.TheVariants.{Plain, Scaled}
use Rattle.walk.specs.Plain.{column_of, field_of, cells, item_at, entries_of, chosen}
use Rattle.walk.specs.Plain.{column_entries, columns_entries, row_entries}
use Rattle.walk.specs.Scaled.{scaled_entry, in_reading}
use Rattle.walk.specs.Walk.{entries_from}
use Rattle.walk.specs.Step.{Selection, all_columns, wanted, choice_of}
use Rattle.walk.specs.Narrow.{entry_column, struck}
use Rattle.std.proofs.lemmas.List.Elements.{filter-append}
use Rattle.walk.proofs.Choice.{chosen_of}

-- the layout's columns that a selection's choice has are those that are wanted: of all columns, each
wanted_chosen : (l : BinTable) (sel : Selection) (c : ℕ) → c < l.tfields → chosen (choice_of l sel) c ≡ wanted sel c
wanted_chosen l sel c h = chosen_of l sel c ∙ rw (lt-ltb c l.tfields h)

-- ---- a field: of a column that passes a test all entries stay, and of another none

module _ (keep : ℕ → Bool) where
  cells_stay : (r c : ℕ) (v : ℕ → DataValue) (i n : ℕ) → keep c ≡ true
      → struck keep (cells r c v i n) ≡ cells r c v i n
  unfolding cells
  cells_stay r c v i zero t = refl
  cells_stay r c v i (suc n) t = rw (t, cells_stay r c v (suc i) n t)

  cells_go : (r c : ℕ) (v : ℕ → DataValue) (i n : ℕ) → keep c ≡ false → struck keep (cells r c v i n) ≡ []
  unfolding cells
  cells_go r c v i zero t = refl
  cells_go r c v i (suc n) t = rw (t, cells_go r c v (suc i) n t)

  module _ (column : Column) (a : List ℕ) (r c : ℕ) where
    field_stays : (f : Field) → keep c ≡ true → struck keep (entries_of column a r c f) ≡ entries_of column a r c f
    unfolding entries_of
    field_stays (F.Items ty at n) t = cells_stay r c (item_at column a ty at) 0 n t
    field_stays (F.Descriptor v) t = rw t
    field_stays F.OutsideHeap t = rw t

    field_goes : (f : Field) → keep c ≡ false → struck keep (entries_of column a r c f) ≡ []
    unfolding entries_of
    field_goes (F.Items ty at n) t = cells_go r c (item_at column a ty at) 0 n t
    field_goes (F.Descriptor v) t = rw t
    field_goes F.OutsideHeap t = rw t

  -- ---- lists of entries

  -- an entry keeps its column in the other reading, so scaling may come before or after
  struck_scaled : (l : BinTable) (es : List Entry)
      → map (scaled_entry l) (struck keep es) ≡ struck keep (map (scaled_entry l) es)
  struck_scaled l [] = refl
  struck_scaled l (E.Cell x ∷ es) =
      either (keep x.column) (λ t. rw (t, struck_scaled l es)) (λ t. rw (t, struck_scaled l es))
  struck_scaled l (E.OutsideHeap k ∷ es) =
      either (keep k) (λ t. rw (t, struck_scaled l es)) (λ t. rw (t, struck_scaled l es))

  -- so a row that is struck out is struck out in either reading
  struck_in : (l : BinTable) (m : Reading) (all some : ℕ → List Entry) (r : ℕ) → some r ≡ struck keep (all r)
      → in_reading l m some r ≡ struck keep (in_reading l m all r)
  struck_in l Plain all some r e = e
  struck_in l Scaled all some r e = ap (map (scaled_entry l)) e ∙ struck_scaled l (all r)

  -- rows that are each struck out, one after the other
  struck_rows : (all some : ℕ → List Entry) → ((r : ℕ) → some r ≡ struck keep (all r))
      → (n r k : ℕ) → entries_from some n r k ≡ struck keep (entries_from all n r k)
  unfolding entries_from
  struck_rows all some e n r zero = refl
  struck_rows all some e n r (suc k) =
      ap₂ ◌++◌ (e r) (struck_rows all some e n (suc r) k) ∙ sym (filter-append (λ (e : Entry). keep (entry_column e)) (all r) (entries_from all n (suc r) k))

-- ---- a choice, and a test that says of the layout's columns which are in it

module _ (l : BinTable) (a : List ℕ) (heap : Bool) (choice : ℕ) (keep : ℕ → Bool)
    (same : (c : ℕ) → c < l.tfields → chosen choice c ≡ keep c) where
  abbrev some : ℕ → List Entry
  some = row_entries l a choice heap

  abbrev all : ℕ → List Entry
  all = row_entries l a (choice_of l all_columns) heap

  column_struck : (r c : ℕ) → c < l.tfields
      → column_entries l a choice heap r c ≡ struck keep (column_entries l a (choice_of l all_columns) heap r c)
  unfolding column_entries
  column_struck r c h =
      let f = field_of l a heap r c in
      rw (wanted_chosen l all_columns c h, same c h)
      (either (keep c)
      (λ t. rw t (sym (field_stays keep (column_of l c) a r c f t)))
      (λ t. rw t (sym (field_goes keep (column_of l c) a r c f t))))

  columns_struck : (r c n : ℕ) → c + n ≤ l.tfields
      → columns_entries l a choice heap r c n ≡ struck keep (columns_entries l a (choice_of l all_columns) heap r c n)
  unfolding columns_entries
  columns_struck r c zero h = refl
  columns_struck r c (suc n) h =
      let full = choice_of l all_columns in
      ap₂ ◌++◌ (column_struck r c (omega arith)) (columns_struck r (suc c) n (omega arith))
      ∙ sym (filter-append (λ (e : Entry). keep (entry_column e)) (column_entries l a full heap r c) (columns_entries l a full heap r (suc c) n))

  row_struck : (r : ℕ) → some r ≡ struck keep (all r)
  unfolding row_entries
  row_struck r =
      either (ltb r l.naxis2) (λ t. rw t (columns_struck r 0 l.tfields (omega arith))) (λ t. rw t)

  row_struck_in : (m : Reading) (r : ℕ) → in_reading l m some r ≡ struck keep (in_reading l m all r)
  row_struck_in m r = struck_in keep l m all some r (row_struck r)

  table_struck_in : (m : Reading) (r k : ℕ)
      → entries_from (in_reading l m some) l.naxis2 r k ≡ struck keep (entries_from (in_reading l m all) l.naxis2 r k)
  table_struck_in m r k = struck_rows keep (in_reading l m all) (in_reading l m some) (row_struck_in m) l.naxis2 r k

-- ---- any choice, as a number

module _ (l : BinTable) (a : List ℕ) (choice : ℕ) (heap : Bool) where
  -- the plain list of a row: what is chosen, of the plain list of all columns
  pub row_narrow : (r : ℕ)
      → row_entries l a choice heap r ≡ struck (chosen choice) (row_entries l a (choice_of l all_columns) heap r)
  row_narrow r = row_struck l a heap choice (chosen choice) (λ c h. refl) r

  -- the same of a row's list in either reading
  pub row_narrow_in : (m : Reading) (r : ℕ)
      → in_reading l m (row_entries l a choice heap) r
      ≡ struck (chosen choice) (in_reading l m (row_entries l a (choice_of l all_columns) heap) r)
  row_narrow_in m r = row_struck_in l a heap choice (chosen choice) (λ c h. refl) m r

  -- and of the lists of k rows from row r on, one after the other
  pub table_narrow_in : (m : Reading) (r k : ℕ)
      → entries_from (in_reading l m (row_entries l a choice heap)) l.naxis2 r k
      ≡ struck (chosen choice)
      (entries_from (in_reading l m (row_entries l a (choice_of l all_columns) heap)) l.naxis2 r k)
  table_narrow_in m r k = table_struck_in l a heap choice (chosen choice) (λ c h. refl) m r k

-- ---- a selection: all columns, or those of a list of indexes

-- each row's list, and the lists of k rows from row r on one after the other, are those of all columns with the
-- entries of the unwanted columns struck out
pub record NarrowList (l : BinTable) (a : List ℕ) (sel : Selection) (heap : Bool) : Type 0 where
  pub row : (m : Reading) (r : ℕ)
      → in_reading l m (row_entries l a (choice_of l sel) heap) r
      ≡ struck (wanted sel) (in_reading l m (row_entries l a (choice_of l all_columns) heap) r)
  pub table : (m : Reading) (r k : ℕ)
      → entries_from (in_reading l m (row_entries l a (choice_of l sel) heap)) l.naxis2 r k
      ≡ struck (wanted sel)
      (entries_from (in_reading l m (row_entries l a (choice_of l all_columns) heap)) l.naxis2 r k)

-- of each table that the entry accepts, as of any other layout and data area
pub narrow_list : (h a : List ℕ) (l : BinTable) (sel : Selection) (heap : Bool) → entry h a ≡ accepted l
    → NarrowList l a sel heap
narrow_list h a l sel heap e =
    record {
      row = row_struck_in l a heap (choice_of l sel) (wanted sel) (wanted_chosen l sel);
      table = table_struck_in l a heap (choice_of l sel) (wanted sel) (wanted_chosen l sel);
    }
