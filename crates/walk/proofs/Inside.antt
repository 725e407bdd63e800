-- What a layout that keeps its limits and sums says in numbers: every byte that a field stands for lies inside the data, and each number of
-- entries fits 64 bits.
-- Assumes nothing.
use Prim.Native.Nat.{ℕ, zero, suc, ◌+◌, ◌*◌, ◌≤◌, ◌<◌}
use mathlib.Core.Path.{◌≡◌}
use mathlib.Core.Bool.{Bool, true, ◌&&◌}
use mathlib.Core.List.{List, [], ◌∷◌}
use native.Mathlib.Nat.{mul-le-mul_right, not-suc-le-zero, le_of_suc-le-suc, le_trans}
use native.Mathlib.Omega.{arith}
use lib.ListN.{length, get_or, take, length-append}
use lib.Dec.{eqb, leb, ltb}
use borrow.Author.Tests.{eqb-true, ltb-true}
use Rattle.ascii.proofs.Cases.{by_test, both}
use Rattle.tform.specs.Width.{count_ok}
use Rattle.layout.specs.declared.Column.{Column}
use Rattle.layout.specs.declared.BinTable.{BinTable}
use Rattle.layout.specs.Layout.{data_limit, no_column, column_bytes, main_size, data_size, columns_ok, layout_ok}
use Rattle.layout.proofs.Sizes.{Limits, limits, data_bound}
use Rattle.cell.specs.Field.{ItemsInside}
use Rattle.cell.proofs.Inside.{field_inside, inside_wider, size_bound}
use Rattle.walk.specs.declared.Entry.{Entry}
use Rattle.walk.specs.Plain.{column_of, field_at, field_of, chosen, column_size, columns_entries, row_entries}
use Rattle.walk.specs.Step.{fits}
use Rattle.walk.proofs.Laws.{column_length}

pub fits_layout : (l : BinTable) (a : List ℕ) → fits l a ≡ true → layout_ok l ≡ true
unfolding fits
fits_layout l a e = (both (layout_ok l) (leb (data_size l) (length a)) e).0

pub fits_limits : (l : BinTable) (a : List ℕ) → fits l a ≡ true → Limits l
fits_limits l a e = limits l (fits_layout l a e)

-- ---- the bytes of a field

module _ (end : ℕ) where
  in_order : (at : ℕ) (c : Column) (cs : List Column) → columns_ok end at (c ∷ cs) ≡ true
      → (c.start ≡ at) × (columns_ok end (at + column_bytes c) cs ≡ true)
  unfolding columns_ok
  in_order at c cs e =
      let rest = columns_ok end (at + column_bytes c) cs in
      let q = both (eqb c.start at) rest (both (count_ok c.form c.count) (eqb c.start at && rest) e).1 in
      (eqb-true c.start at q.0, q.1)

  starts_below : (at : ℕ) (cs : List Column) → columns_ok end at cs ≡ true → at ≤ end
  unfolding columns_ok
  starts_below at [] e = omega (arith, eqb-true at end e)
  starts_below at (c ∷ cs) e = omega (arith, starts_below (at + column_bytes c) cs (in_order at c cs e).1)

  column_inside : (at : ℕ) (cs : List Column) (n k : ℕ) → columns_ok end at (take n cs) ≡ true → k < n
      → (get_or cs k no_column).start + column_bytes (get_or cs k no_column) ≤ end
  unfolding columns_ok
  column_inside at [] n k e h = omega arith
  column_inside at (c ∷ cs) zero k e h = absurd (not-suc-le-zero h)
  column_inside at (c ∷ cs) (suc n) zero e h =
      let q = in_order at c (take n cs) e in omega (arith, q.0, starts_below (at + column_bytes c) (take n cs) q.1)
  column_inside at (c ∷ cs) (suc n) (suc k) e h = column_inside (at + column_bytes c) cs n k (in_order at c (take n cs) e).1 (le_of_suc-le-suc h)

module _ (l : BinTable) (ok : layout_ok l ≡ true) where
  -- a column lies inside the row
  pub column_in_row : (c : ℕ) → c < l.tfields → (column_of l c).start + column_bytes (column_of l c) ≤ l.naxis1
  column_in_row c h = column_inside l.naxis1 0 l.columns l.tfields c (limits l ok).sums h

  -- a row lies inside the main table
  pub row_in_main : (r : ℕ) → r < l.naxis2 → r * l.naxis1 + l.naxis1 ≤ main_size l
  row_in_main r h = omega (arith, mul-le-mul_right l.naxis1 h)

  -- and so does a field
  pub field_in_main : (r c : ℕ) → r < l.naxis2 → c < l.tfields → field_at l r c + column_bytes (column_of l c) ≤ main_size l
  field_in_main r c hr hc = omega (arith, column_in_row c hc, row_in_main r hr)

  -- the items of a field lie inside the data
  pub items_in_data : (a : List ℕ) (heap : Bool) (r c : ℕ) → r < l.naxis2 → c < l.tfields → ItemsInside (data_size l) (field_of l a heap r c)
  unfolding field_of
  items_in_data a heap r c hr hc =
      field_inside a (field_at l r c) (column_of l c) heap l.theap (data_size l) (omega (arith, field_in_main r c hr hc))

  -- so no place of an item wraps
  pub items_bound : (a : List ℕ) (heap : Bool) (r c : ℕ) → r < l.naxis2 → c < l.tfields → ItemsInside data_limit (field_of l a heap r c)
  items_bound a heap r c hr hc = inside_wider (data_size l) data_limit (field_of l a heap r c) (data_bound l ok) (items_in_data a heap r c hr hc)

  -- ---- how many entries there are at most

  module _ (a : List ℕ) (choice : ℕ) (heap : Bool) (r : ℕ) (hr : r < l.naxis2) where
    pub column_bound : (c : ℕ) → c < l.tfields → column_size l a choice heap r c ≤ data_size l + 1
    column_bound c h =
        by_test (λ (k : ℕ). k ≤ data_size l + 1) (chosen choice c)
        (λ t. size_bound (data_size l) (field_of l a heap r c) (items_in_data a heap r c hr h)) (λ t. omega arith)

    columns_bound : (c n : ℕ) → c + n ≤ l.tfields → length (columns_entries l a choice heap r c n) ≤ n * (data_size l + 1)
    unfolding columns_entries
    columns_bound c zero h = omega arith
    columns_bound c (suc n) h =
        let q : length (columns_entries l a choice heap r (suc c) n) ≤ n * (data_size l + 1) = columns_bound (suc c) n (omega arith) in
        let p : column_size l a choice heap r c ≤ data_size l + 1 = column_bound c (omega arith) in
        rw (length-append, column_length) (omega (arith, p, q))

  -- a row's entries, and one more, fit 64 bits
  pub row_bound : (a : List ℕ) (choice : ℕ) (heap : Bool) (r : ℕ) → length (row_entries l a choice heap r) ≤ 1126037345796096
  unfolding row_entries
  row_bound a choice heap r =
      by_test (λ (es : List Entry). length es ≤ 1126037345796096) (ltb r l.naxis2)
      (λ t.
      le_trans (columns_bound a choice heap r (ltb-true r l.naxis2 t) 0 l.tfields (omega arith))
      (le_trans (mul-le-mul_right (data_size l + 1) (limits l ok).columns) (omega (arith, data_bound l ok))))
      (λ t. omega arith)
