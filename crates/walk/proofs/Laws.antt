-- The plain list, place by place: what a loop over the columns of a row, or over the rows from a place on, asks for.
-- Assumes nothing.
use Prim.Native.Nat.{ℕ, zero, suc, ◌+◌, ◌-◌, ◌≤◌, ◌<◌}
use mathlib.Core.Path.{◌≡◌, refl, sym, ap, ◌∙◌}
use mathlib.Core.Bool.{Bool, true, false, cond}
use mathlib.Core.List.{List, [], ◌++◌}
use native.Mathlib.Nat.{add-zero, add-suc, suc-add, zero-add, not-suc-le-zero, le_of_suc-le-suc}
use native.Mathlib.Omega.{arith}
use lib.ListN.{length, get_or, length-append, get_or-append}
use lib.Seq.{get_or-append_right}
use lib.Dec.{ltb}
use borrow.Author.Tests.{ltb-true, lt-ltb, le-ltb, ltb-false}
use Rattle.ascii.proofs.Cases.{by_test, either, by_both}
use Rattle.layout.specs.declared.Column.{Column}
use Rattle.layout.specs.declared.BinTable.{BinTable}
use Rattle.cell.specs.declared.DataValue.{DataValue}
use Rattle.cell.specs.declared.Field.{Field}
use Rattle.cell.specs.declared.Field.TheVariants as F
use Rattle.cell.specs.Field.{size_of}
use Rattle.walk.specs.declared.Entry.{Entry}
use Rattle.walk.specs.declared.Entry.TheVariants as E
use Rattle.walk.specs.Plain.{column_of, field_of, cell_of, item_at, cells, entries_of, entry_in, chosen, column_entries, column_size, columns_entries, row_entries}
use Rattle.walk.specs.Walk.{Next, entry_at, no_entry, next}

-- ---- a field

cells_length : (r c : ℕ) (v : ℕ → DataValue) (i n : ℕ) → length (cells r c v i n) ≡ n
unfolding cells
cells_length r c v i zero = refl
cells_length r c v i (suc n) = ap suc (cells_length r c v (suc i) n)

cells_at : (r c : ℕ) (v : ℕ → DataValue) (i n k : ℕ) (d : Entry) → k < n → get_or (cells r c v i n) k d ≡ E.Cell (cell_of r c (i + k) (v (i + k)))
unfolding cells
cells_at r c v i zero k d h = absurd (not-suc-le-zero h)
cells_at r c v i (suc n) zero d h = rw add-zero
cells_at r c v i (suc n) (suc k) d h = rw (add-suc i k, ← suc-add i k) (cells_at r c v (suc i) n k d (le_of_suc-le-suc h))

module _ (column : Column) (a : List ℕ) (r c : ℕ) where
  pub entries_length : (f : Field) → length (entries_of column a r c f) ≡ size_of f
  unfolding entries_of
  entries_length (F.Items ty at n) = cells_length r c (item_at column a ty at) 0 n
  entries_length (F.Descriptor v) = refl
  entries_length F.OutsideHeap = refl

  pub entries_at : (f : Field) (k : ℕ) (d : Entry) → k < size_of f → get_or (entries_of column a r c f) k d ≡ entry_in column a r c f k
  unfolding entries_of
  entries_at (F.Items ty at n) k d h = cells_at r c (item_at column a ty at) 0 n k d h ∙ rw zero-add
  entries_at (F.Descriptor v) zero d h = refl
  entries_at (F.Descriptor v) (suc k) d h = absurd (not-suc-le-zero (le_of_suc-le-suc h))
  entries_at F.OutsideHeap zero d h = refl
  entries_at F.OutsideHeap (suc k) d h = absurd (not-suc-le-zero (le_of_suc-le-suc h))

-- ---- a row, column by column

module _ (l : BinTable) (a : List ℕ) (choice : ℕ) (heap : Bool) (r : ℕ) where
  -- the plain list from column c on: what a loop looks for at an index of the row stands here at what is left of the index
  abbrev pub from : ℕ → List Entry
  from c = columns_entries l a choice heap r c (l.tfields - c)

  abbrev size : ℕ → ℕ
  size c = column_size l a choice heap r c

  pub from_row : r < l.naxis2 → row_entries l a choice heap r ≡ from 0
  unfolding row_entries
  from_row h = let e : l.tfields - 0 ≡ l.tfields = omega arith in rw (lt-ltb r l.naxis2 h, e)

  pub from_end : (c : ℕ) → l.tfields ≤ c → from c ≡ []
  unfolding columns_entries
  from_end c h = let e : l.tfields - c ≡ 0 = omega arith in rw e

  from_step : (c : ℕ) → c < l.tfields → from c ≡ column_entries l a choice heap r c ++ from (suc c)
  unfolding columns_entries
  from_step c h = let e : l.tfields - c ≡ suc (l.tfields - suc c) = omega arith in rw e

  -- a column that is not chosen has no entry
  pub from_skip : (c : ℕ) → chosen choice c ≡ false → from c ≡ from (suc c)
  unfolding column_entries
  from_skip c e =
      either (ltb c l.tfields) (λ t. rw (from_step c (ltb-true c l.tfields t), e))
      (λ t. let h = ltb-false c l.tfields t in from_end c h ∙ sym (from_end (suc c) (omega (arith, h))))

  pub column_length : (c : ℕ) → length (column_entries l a choice heap r c) ≡ size c
  unfolding column_entries
  column_length c = by_both (λ (xs : List Entry) (n : ℕ). length xs ≡ n) (chosen choice c) (λ _. entries_length (column_of l c) a r c (field_of l a heap r c)) (λ _. refl)

  column_at : (c k : ℕ) (d : Entry) → k < size c → get_or (column_entries l a choice heap r c) k d ≡ entry_in (column_of l c) a r c (field_of l a heap r c) k
  unfolding column_entries
  column_at c k d h = go (chosen choice c) h
    where
      go : (t : Bool) → k < cond t (size_of (field_of l a heap r c)) 0
          → get_or (cond t (entries_of (column_of l c) a r c (field_of l a heap r c)) []) k d ≡ entry_in (column_of l c) a r c (field_of l a heap r c) k
      go true h = entries_at (column_of l c) a r c (field_of l a heap r c) k d h
      go false h = absurd (not-suc-le-zero h)

  -- an entry of a column is one of its field's, so the column is chosen
  pub size_chosen : (c k : ℕ) → k < size c → k < size_of (field_of l a heap r c)
  size_chosen c k h = go (chosen choice c) h
    where
      go : (t : Bool) → k < cond t (size_of (field_of l a heap r c)) 0 → k < size_of (field_of l a heap r c)
      go true h = h
      go false h = absurd (not-suc-le-zero h)

  pub length_from : (c : ℕ) → c < l.tfields → length (from c) ≡ size c + length (from (suc c))
  length_from c h = rw (from_step c h, length-append, column_length)

  -- the entry at index k of what is left stands in column c, or k - size c further on
  pub at_here : (c k : ℕ) (d : Entry) → c < l.tfields → k < size c → get_or (from c) k d ≡ entry_in (column_of l c) a r c (field_of l a heap r c) k
  at_here c k d hc hk =
      rw (from_step c hc) (get_or-append (column_entries l a choice heap r c) (from (suc c)) d k (rw column_length hk) ∙ column_at c k d hk)

  pub at_later : (c k : ℕ) (d : Entry) → c < l.tfields → size c ≤ k → get_or (from c) k d ≡ get_or (from (suc c)) (k - size c) d
  at_later c k d hc hk =
      rw (from_step c hc, ← column_length c) (get_or-append_right (column_entries l a choice heap r c) (from (suc c)) k d (rw column_length hk))

-- ---- the next entry: none below the last row, here, or from the next row's start on

module _ (rows : ℕ → List Entry) (n : ℕ) where
  pub next_end : (r p : ℕ) → n ≤ r → next rows n (n - r) r p ≡ no_entry
  unfolding next
  next_end r p h = let e : n - r ≡ 0 = omega arith in rw e

  pub next_here : (r p : ℕ) → r < n → p < length (rows r) → next rows n (n - r) r p ≡ entry_at r p (get_or (rows r) p (E.OutsideHeap 0))
  unfolding next
  next_here r p h q = let e : n - r ≡ suc (n - suc r) = omega arith in rw (e, lt-ltb p (length (rows r)) q)

  pub next_skip : (r p : ℕ) → r < n → length (rows r) ≤ p → next rows n (n - r) r p ≡ next rows n (n - suc r) (suc r) 0
  unfolding next
  next_skip r p h q = let e : n - r ≡ suc (n - suc r) = omega arith in rw (e, le-ltb p (length (rows r)) q)

  -- none where no row has an entry
  pub next_none : ((r : ℕ) → length (rows r) ≡ 0) → (k r p : ℕ) → next rows n k r p ≡ no_entry
  unfolding next
  next_none none zero r p = refl
  next_none none (suc k) r p = rw (none r, le-ltb p 0 (omega arith)) (next_none none k (suc r) 0)

  -- what the next entry is: the one at its place, which lies in a row of the table
  abbrev pub IsNext : Next → Type 0
  IsNext no_entry = Unit {0}
  IsNext (entry_at r p e) = (e ≡ get_or (rows r) p (E.OutsideHeap 0)) × ((p < length (rows r)) × (r < n))

  next_from : (k r p : ℕ) → k ≤ n - r → IsNext (next rows n k r p)
  unfolding next
  next_from zero r p h = tt
  next_from (suc k) r p h =
      by_test IsNext (ltb p (length (rows r))) (λ e. (refl, (ltb-true p _ e, omega arith))) (λ e. next_from k (suc r) _ (omega arith))

  pub is_next : (r p : ℕ) → IsNext (next rows n (n - r) r p)
  is_next r p = next_from (n - r) r p (omega arith)
