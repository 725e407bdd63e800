-- Which items are unset: those of B, I, J and K whose stored number is the null of their column. All others are what
-- their bytes say, so without a null every item is.
-- Assumes nothing.
use Rattle.std.specs.Prelude.{Option, Some, None, is_some, ◌↔◌}
use Rattle.std.proofs.lemmas.Bool.Decides.{Decides-int_eq}
use Prim.Native.Nat.{ℕ, ◌+◌, ◌*◌}
use mathlib.Core.Path.{◌≡◌, refl, subst}
use mathlib.Core.Bool.{Bool, true, false}
use lib.Dec.{eqb, leb}
use mathlib.Core.List.{List}
use lib.IntN.{ℤ, pos, neg_ℤ}
use Rattle.ascii.proofs.Cases.{by_test, either}
use Rattle.tform.specs.declared.VariableArrayTy.{VariableArrayTy}
use Rattle.tform.specs.declared.VariableArrayTy.TheVariants as T
use Rattle.tform.specs.declared.TFormType.{TFormType}
use Rattle.tform.specs.declared.TFormType.TheVariants as F
use Rattle.tform.specs.Width.{element, items, can_have_null}
use Rattle.layout.specs.declared.Null.{Null}
use Rattle.layout.specs.declared.Null.TheVariants as N
use Rattle.layout.specs.declared.Scaling.{Scaling}
use Rattle.layout.specs.declared.Column.{Column}
use Rattle.cell.specs.declared.DataValue.{DataValue}
use Rattle.cell.specs.declared.DataValue.TheVariants as D
use Rattle.cell.specs.declared.Field.{Field}
use Rattle.cell.specs.declared.Field.TheVariants.{Items, Descriptor, OutsideHeap}
use Rattle.cell.specs.Field.{array, field32, field64, field_by, field}
use Rattle.cell.specs.Item.{width, raw_item, stored_number, is_null, item}
use Rattle.cell.specs.Scaled.{shifts_by, unsigned_or, scaled_value}
use Rattle.cell.proofs.ScaledLaws.{by_type}

-- ---- the types

-- the items of a column, and of its arrays, have a stored number just where they may be unset: of type B, I, J or K
pub has_number : (f : TFormType) (a : List ℕ) (p : ℕ) → is_some (stored_number (raw_item (element f) a p)) ≡ can_have_null f
unfolding can_have_null
has_number (F.Items ty) a p = (by_type ty a p).1
has_number (F.P ty) a p = (by_type ty a p).1
has_number (F.Q ty) a p = (by_type ty a p).1

-- ---- the items

-- no item is unset by its bytes alone
pub raw_set : (ty : VariableArrayTy) (a : List ℕ) (p : ℕ) → raw_item ty a p ≡ D.Unset → ⊥
raw_set T.L a p e = cc
raw_set T.X a p e = cc
raw_set T.B a p e = cc
raw_set T.I a p e = cc
raw_set T.J a p e = cc
raw_set T.K a p e = cc
raw_set T.A a p e = cc
raw_set T.E a p e = cc
raw_set T.D a p e = cc
raw_set T.C a p e = cc
raw_set T.M a p e = cc

module _ (column : Column) (ty : VariableArrayTy) (a : List ℕ) (p : ℕ) where
  abbrev stored : Option ℤ
  stored = stored_number (raw_item ty a p)

  -- an item is unset by its null alone
  pub unset_by : item column ty a p ≡ D.Unset → is_null column.null stored ≡ true
  unfolding item
  unset_by e = either (is_null column.null stored) (λ t. t) (λ t. absurd (raw_set ty a p (rw t at e)))

  pub unset_if : is_null column.null stored ≡ true → item column ty a p ≡ D.Unset
  unfolding item
  unset_if t = rw t

  pub set_if : is_null column.null stored ≡ false → item column ty a p ≡ raw_item ty a p
  unfolding item
  set_if t = rw t

  -- what is not unset is what its bytes say
  pub set_else : (item column ty a p ≡ D.Unset → ⊥) → item column ty a p ≡ raw_item ty a p
  set_else h = either (is_null column.null stored) (λ t. absurd (h (unset_if t))) set_if

  -- the null m: an item is unset just where it has a stored number and this is m
  pub unset_exactly : (m : ℤ) → column.null ≡ N.Number m → (item column ty a p ≡ D.Unset) ↔ (stored ≡ Some m)
  unset_exactly m n = (λ e. is_m stored (rw n at (unset_by e)), λ e. unset_if (rw (n, e) ((Decides-int_eq m m).1 refl)))
    where
      is_m : (s : Option ℤ) → is_null (N.Number m) s ≡ true → s ≡ Some m
      is_m None t = cc
      is_m (Some z) t = let e = (Decides-int_eq m z).0 t in rw e

  -- any other column: each item is what its bytes say
  pub as_stored : ((m : ℤ) → column.null ≡ N.Number m → ⊥) → item column ty a p ≡ raw_item ty a p
  as_stored h = set_if (by column.null stored h)
    where
      by : (n : Null) (s : Option ℤ) → ((m : ℤ) → n ≡ N.Number m → ⊥) → is_null n s ≡ false
      by n None g = refl
      by N.NotGiven (Some z) g = refl
      by (N.Number m) (Some z) g = absurd (g m refl)
      by N.OutOfRange (Some z) g = refl

-- ---- descriptors

-- a descriptor that is not followed is never unset
abbrev SetField : Field → Type 0
SetField (Items ty at n) = Unit {0}
SetField (Descriptor v) = v ≡ D.Unset → ⊥
SetField OutsideHeap = Unit {0}

array_set : (theap end : ℕ) (ty : VariableArrayTy) (n o : ℕ) → SetField (array theap end ty n o)
unfolding array
array_set theap end ty n o =
    by_test SetField (eqb n 0) (λ e. tt) (λ e. by_test SetField (leb (theap + o + items ty n * width ty) end) (λ d. tt) (λ d. tt))

by_form : (f : TFormType) (a : List ℕ) (p n : ℕ) (heap : Bool) (theap end : ℕ) → SetField (field_by a p f n heap theap end)
unfolding field32 field64
by_form (F.Items ty) a p n heap theap end = tt
by_form (F.P ty) a p n heap theap end =
    by_test SetField (eqb n 0) (λ z. tt) (λ z. by_test SetField heap (λ e. array_set theap end ty _ _) (λ e u. cc))
by_form (F.Q ty) a p n heap theap end =
    by_test SetField (eqb n 0) (λ z. tt) (λ z. by_test SetField heap (λ e. array_set theap end ty _ _) (λ e u. cc))

pub descriptor_set : (a : List ℕ) (p : ℕ) (column : Column) (heap : Bool) (theap end : ℕ) (v : DataValue)
    → field a p column heap theap end ≡ Descriptor v → v ≡ D.Unset → ⊥
unfolding field
descriptor_set a p column heap theap end v e = subst SetField e (by_form column.form a p column.count heap theap end)

-- ---- the scaled reading

-- no other value is unset when it is scaled
abbrev IsSet : DataValue → Type 0
IsSet v = v ≡ D.Unset → ⊥

unsigned_set : (half : ℕ) (s : Scaling) (z : ℤ) → IsSet (unsigned_or half s z)
unsigned_set half s z = by_test IsSet (shifts_by (pos half) s) (λ t e. cc) (λ t e. cc)

byte_set : (s : Scaling) (n : ℕ) → IsSet (scaled_value s (D.UnsignedByte n))
byte_set s n = by_test IsSet (shifts_by (neg_ℤ (pos 128)) s) (λ t e. cc) (λ t e. cc)

-- a value is unset in the scaled reading just where it is in the plain one, whatever the scaling
pub scaled_unset : (s : Scaling) (v : DataValue) → (scaled_value s v ≡ D.Unset) ↔ (v ≡ D.Unset)
scaled_unset s v = (unset v, λ e. rw e)
  where
    unset : (v : DataValue) → scaled_value s v ≡ D.Unset → v ≡ D.Unset
    unset D.Unset e = refl
    unset (D.Logical v) e = cc
    unset (D.Bit n) e = cc
    unset (D.UnsignedByte n) e = absurd (byte_set s n e)
    unset (D.Short z) e = absurd (unsigned_set 32768 s z e)
    unset (D.Integer z) e = absurd (unsigned_set 2147483648 s z e)
    unset (D.Long z) e = absurd (unsigned_set 9223372036854775808 s z e)
    unset (D.UnsignedLong n) e = cc
    unset (D.Character n) e = cc
    unset (D.Float x bits) e = cc
    unset (D.Double x bits) e = cc
    unset (D.ComplexFloat x b y c) e = cc
    unset (D.ComplexDouble x b y c) e = cc
    unset (D.VariableLengthArray32 n o) e = cc
    unset (D.VariableLengthArray64 n o) e = cc
