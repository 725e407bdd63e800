-- The items of a field lie inside the heap or inside the field, and how many they are at most.
-- Assumes nothing.
use Prim.Native.Nat.{ℕ, ◌+◌, ◌*◌, ◌≤◌}
use mathlib.Core.Bool.{Bool}
use mathlib.Core.List.{List}
use native.Mathlib.Nat.{mul-le-mul_left, le_trans}
use native.Mathlib.Omega.{arith}
use lib.Dec.{eqb, leb}
use borrow.Author.Tests.{leb-true}
use Rattle.ascii.proofs.Cases.{by_test}
use Rattle.tform.specs.declared.VariableArrayTy.{VariableArrayTy}
use Rattle.tform.specs.declared.TFormType.{TFormType}
use Rattle.tform.specs.declared.TFormType.TheVariants as F
use Rattle.tform.specs.Width.{items, field_bytes}
use Rattle.layout.specs.declared.Column.{Column}
use Rattle.layout.specs.Layout.{column_bytes}
use Rattle.cell.specs.declared.Field.{Field}
use Rattle.cell.specs.declared.Field.TheVariants.{Items, Descriptor, OutsideHeap}
use Rattle.cell.specs.Item.{word, width}
use Rattle.cell.specs.Field.{array, field32, field64, field_by, field, size_of, ItemsInside}
use Rattle.cell.proofs.Widths.{width_pos}

-- a sound array ends inside the heap
array_inside : (theap end : ℕ) (ty : VariableArrayTy) (n o : ℕ) → ItemsInside end (array theap end ty n o)
unfolding array
array_inside theap end ty n o =
    by_test (ItemsInside end) (eqb n 0) (λ t. omega arith)
    (λ t. by_test (ItemsInside end) (leb (theap + o + items ty n * width ty) end) (λ t. leb-true _ _ t) (λ t. tt))

by_form : (a : List ℕ) (p : ℕ) (f : TFormType) (n : ℕ) (heap : Bool) (theap end : ℕ) → p + field_bytes f n ≤ end
    → ItemsInside end (field_by a p f n heap theap end)
unfolding field32 field64
by_form a p (F.Items ty) n heap theap end h = h
by_form a p (F.P ty) n heap theap end h =
    by_test (ItemsInside end) (eqb n 0) (λ z. omega arith)
    (λ z. by_test (ItemsInside end) heap (λ t. array_inside theap end ty (word a p 4) (word a (p + 4) 4)) (λ t. tt))
by_form a p (F.Q ty) n heap theap end h =
    by_test (ItemsInside end) (eqb n 0) (λ z. omega arith)
    (λ z. by_test (ItemsInside end) heap (λ t. array_inside theap end ty (word a p 8) (word a (p + 8) 8)) (λ t. tt))

-- a field that lies before `end` has its items there
pub field_inside : (a : List ℕ) (p : ℕ) (column : Column) (heap : Bool) (theap end : ℕ) → p + column_bytes column ≤ end
    → ItemsInside end (field a p column heap theap end)
unfolding field
field_inside a p column heap theap end h = by_form a p column.form column.count heap theap end h

-- an item has one byte at least
pub size_bound : (end : ℕ) (f : Field) → ItemsInside end f → size_of f ≤ end + 1
size_bound end (Items ty at n) h = omega (arith, h, mul-le-mul_left n (width_pos ty))
size_bound end (Descriptor v) h = omega arith
size_bound end OutsideHeap h = omega arith

pub inside_wider : (m n : ℕ) (f : Field) → m ≤ n → ItemsInside m f → ItemsInside n f
inside_wider m n (Items ty at k) h i = le_trans i h
inside_wider m n (Descriptor v) h i = tt
inside_wider m n OutsideHeap h i = tt

-- the entries of a field, wherever it lies
pub field_bound : (a : List ℕ) (p : ℕ) (column : Column) (heap : Bool) (theap end : ℕ)
    → size_of (field a p column heap theap end) ≤ column_bytes column + end + 1
unfolding field field32 field64
field_bound a p column heap theap end = by_form_bound column.form column.count
  where
    by_form_bound : (f : TFormType) (n : ℕ) → size_of (field_by a p f n heap theap end) ≤ field_bytes f n + end + 1
    by_form_bound (F.Items ty) n = omega (arith, mul-le-mul_left (items ty n) (width_pos ty))
    by_form_bound (F.P ty) n =
        by_test (λ (f : Field). size_of f ≤ field_bytes (F.P ty) n + end + 1) (eqb n 0) (λ z. omega arith)
        (λ z. by_test (λ (f : Field). size_of f ≤ field_bytes (F.P ty) n + end + 1) heap
        (λ t.
        omega (
          arith,
          size_bound end (array theap end ty (word a p 4) (word a (p + 4) 4))
              (array_inside theap end ty (word a p 4) (word a (p + 4) 4)),
        ))
        (λ t. omega arith))
    by_form_bound (F.Q ty) n =
        by_test (λ (f : Field). size_of f ≤ field_bytes (F.Q ty) n + end + 1) (eqb n 0) (λ z. omega arith)
        (λ z. by_test (λ (f : Field). size_of f ≤ field_bytes (F.Q ty) n + end + 1) heap
        (λ t.
        omega (
          arith,
          size_bound end (array theap end ty (word a p 8) (word a (p + 8) 8))
              (array_inside theap end ty (word a p 8) (word a (p + 8) 8)),
        ))
        (λ t. omega arith))
