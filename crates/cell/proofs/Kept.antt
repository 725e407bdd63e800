-- Each float of an item's value, and of a descriptor's, is the float of the bits beside it.
-- Assumes nothing.
use Prim.Native.Nat.{ℕ, ◌+◌, ◌*◌}
use mathlib.Core.Path.{◌≡◌, refl, subst}
use mathlib.Core.Bool.{Bool}
use mathlib.Core.List.{List}
use lib.Dec.{eqb, leb}
use Rattle.ascii.proofs.Cases.{by_test}
use Rattle.tform.specs.declared.VariableArrayTy.{VariableArrayTy}
use Rattle.tform.specs.declared.VariableArrayTy.TheVariants as T
use Rattle.tform.specs.declared.TFormType.{TFormType}
use Rattle.tform.specs.declared.TFormType.TheVariants as F
use Rattle.tform.specs.Width.{items}
use Rattle.layout.specs.declared.Column.{Column}
use Rattle.cell.specs.declared.DataValue.{DataValue}
use Rattle.cell.specs.declared.Field.{Field}
use Rattle.cell.specs.declared.Field.TheVariants.{Items, Descriptor, OutsideHeap}
use Rattle.cell.specs.Item.{width, raw_item, stored_number, is_null, value_in, item, BitsKept}
use Rattle.cell.specs.Field.{array, field32, field64, field_by, field}

raw_kept : (ty : VariableArrayTy) (a : List ℕ) (p : ℕ) → BitsKept (raw_item ty a p)
raw_kept T.L a p = tt
raw_kept T.X a p = tt
raw_kept T.B a p = tt
raw_kept T.I a p = tt
raw_kept T.J a p = tt
raw_kept T.K a p = tt
raw_kept T.A a p = tt
raw_kept T.E a p = refl
raw_kept T.D a p = refl
raw_kept T.C a p = (refl, refl)
raw_kept T.M a p = (refl, refl)

-- what a column makes of a value keeps it so
value_kept : (column : Column) (v : DataValue) → BitsKept v → BitsKept (value_in column v)
value_kept column v h = by_test BitsKept (is_null column.null (stored_number v)) (λ e. tt) (λ e. h)

pub item_kept : (column : Column) (ty : VariableArrayTy) (a : List ℕ) (p : ℕ) → BitsKept (item column ty a p)
unfolding item
item_kept column ty a p = value_kept column (raw_item ty a p) (raw_kept ty a p)

-- what a field says of its descriptor's value
abbrev Kept : Field → Type 0
Kept (Items ty at n) = Unit {0}
Kept (Descriptor v) = BitsKept v
Kept OutsideHeap = Unit {0}

array_kept : (theap end : ℕ) (ty : VariableArrayTy) (n o : ℕ) → Kept (array theap end ty n o)
unfolding array
array_kept theap end ty n o =
    by_test Kept (eqb n 0) (λ e. tt) (λ e. by_test Kept (leb (theap + o + items ty n * width ty) end) (λ d. tt) (λ d. tt))

by_form : (f : TFormType) (a : List ℕ) (p n : ℕ) (heap : Bool) (theap end : ℕ) → Kept (field_by a p f n heap theap end)
unfolding field32 field64
by_form (F.Items ty) a p n heap theap end = tt
by_form (F.P ty) a p n heap theap end =
    by_test Kept (eqb n 0) (λ z. tt) (λ z. by_test Kept heap (λ e. array_kept theap end ty _ _) (λ e. tt))
by_form (F.Q ty) a p n heap theap end =
    by_test Kept (eqb n 0) (λ z. tt) (λ z. by_test Kept heap (λ e. array_kept theap end ty _ _) (λ e. tt))

pub field_kept : (a : List ℕ) (p : ℕ) (column : Column) (heap : Bool) (theap end : ℕ) (v : DataValue)
    → field a p column heap theap end ≡ Descriptor v → BitsKept v
unfolding field
field_kept a p column heap theap end v e = subst Kept e (by_form column.form a p column.count heap theap end)
