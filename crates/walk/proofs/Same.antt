-- Two data areas that agree have the same plain lists, and agreement goes both ways.
-- Assumes nothing.
use Prim.Native.Nat.{ℕ, zero, suc, ◌+◌, ◌*◌, ◌≤◌, ◌<◌}
use mathlib.Core.Path.{◌≡◌, refl, sym, ap, ap₂, subst, fun_ext, ◌∙◌}
use mathlib.Core.Bool.{Bool, true}
use mathlib.Core.List.{List, ◌++◌}
use native.Mathlib.Nat.{mul-le-mul_right}
use native.Mathlib.Omega.{arith}
use lib.Dec.{ltb}
use borrow.Author.Tests.{ltb-true}
use Rattle.ascii.proofs.Cases.{by_both}
use Rattle.layout.specs.declared.Column.{Column}
use Rattle.layout.specs.declared.BinTable.{BinTable}
use Rattle.layout.specs.Layout.{data_size}
use Rattle.cell.specs.declared.DataValue.{DataValue}
use Rattle.cell.specs.declared.Field.{Field}
use Rattle.cell.specs.declared.Field.TheVariants as F
use Rattle.cell.specs.Item.{width}
use Rattle.cell.proofs.Same.{item_same, field_same}
use Rattle.walk.specs.Plain.{column_of, field_at, field_of, chosen, cells, item_at, entries_of, column_entries, columns_entries, row_entries}
use Rattle.walk.specs.Agree.{SameItems, Agree}

pub cells_same : (r c : ℕ) (v w : ℕ → DataValue) (i n : ℕ) → ((j : ℕ) → j < i + n → v j ≡ w j) → cells r c v i n ≡ cells r c w i n
unfolding cells
cells_same r c v w i zero h = refl
cells_same r c v w i (suc n) h = rw (h i (omega arith), cells_same r c v w (suc i) n (λ j u. h j (omega arith)))

entries_same : (a b : List ℕ) (column : Column) (r c : ℕ) (f : Field) → SameItems a b f → entries_of column a r c f ≡ entries_of column b r c f
unfolding entries_of
entries_same a b column r c (F.Items ty at n) h =
    cells_same r c (item_at column a ty at) (item_at column b ty at) 0 n
    (λ j u. item_same a b column ty (at + j * width ty) (λ i l u'. h i (omega arith) (omega (arith, mul-le-mul_right (width ty) u))))
entries_same a b column r c (F.Descriptor v) h = refl
entries_same a b column r c F.OutsideHeap h = refl

same_back : (a b : List ℕ) (f : Field) → SameItems a b f → SameItems b a f
same_back a b (F.Items ty at n) h = λ i l u. sym (h i l u)
same_back a b (F.Descriptor v) h = tt
same_back a b F.OutsideHeap h = tt

same_self : (a : List ℕ) (f : Field) → SameItems a a f
same_self a (F.Items ty at n) = λ i u v. refl
same_self a (F.Descriptor v) = tt
same_self a F.OutsideHeap = tt

-- an area agrees with itself
pub agree_self : (l : BinTable) (a : List ℕ) (choice : ℕ) (heap : Bool) → Agree l a a choice heap
agree_self l a choice heap =
    record { fields = λ r c hr hc e i u v. refl; arrays = λ r c hr hc e. same_self a (field_of l a heap r c) }

module _ (l : BinTable) (a b : List ℕ) (choice : ℕ) (heap : Bool) (agree : Agree l a b choice heap) where
  -- a chosen field stands for the same items
  fields_same : (r c : ℕ) → r < l.naxis2 → c < l.tfields → chosen choice c ≡ true → field_of l a heap r c ≡ field_of l b heap r c
  unfolding field_of
  fields_same r c hr hc e = field_same a b (field_at l r c) (column_of l c) heap l.theap (data_size l) (agree.fields r c hr hc e)

  column_same : (r c : ℕ) → r < l.naxis2 → c < l.tfields → column_entries l a choice heap r c ≡ column_entries l b choice heap r c
  unfolding column_entries
  column_same r c hr hc =
      by_both ◌≡◌ (chosen choice c)
      (λ e.
      entries_same a b (column_of l c) r c (field_of l a heap r c) (agree.arrays r c hr hc e)
      ∙ ap (entries_of (column_of l c) b r c) (fields_same r c hr hc e))
      (λ e. refl)

  columns_same : (r c n : ℕ) → r < l.naxis2 → c + n ≤ l.tfields → columns_entries l a choice heap r c n ≡ columns_entries l b choice heap r c n
  unfolding columns_entries
  columns_same r c zero hr h = refl
  columns_same r c (suc n) hr h = ap₂ ◌++◌ (column_same r c hr (omega arith)) (columns_same r (suc c) n hr (omega arith))

  -- the plain lists of all rows, as one function of the row
  pub rows_same : row_entries l a choice heap ≡ row_entries l b choice heap
  unfolding row_entries
  rows_same =
      fun_ext
      (λ r. by_both ◌≡◌ (ltb r l.naxis2) (λ e. columns_same r 0 l.tfields (ltb-true r l.naxis2 e) (omega arith)) (λ e. refl))

  -- agreement goes both ways
  pub agree_back : Agree l b a choice heap
  agree_back =
      record {
        fields = λ r c hr hc e i u v. sym (agree.fields r c hr hc e i u v);
        arrays = λ r c hr hc e. subst (SameItems b a) (fields_same r c hr hc e) (same_back a b (field_of l a heap r c) (agree.arrays r c hr hc e));
      }
