-- The items of a field are of its column's type, and a descriptor that is not followed is no number. So of a column whose
-- numbers may not be scaled, or whose descriptors are not followed, no value is scaled.
-- Assumes nothing.
use Prim.Native.Nat.{ℕ, ◌+◌, ◌*◌, ◌<◌}
use mathlib.Core.Path.{◌≡◌, refl, sym, ◌∙◌}
use mathlib.Core.Bool.{Bool, true, false, not, ◌||◌, true≢false}
use mathlib.Core.List.{List}
use native.Mathlib.Omega.{arith}
use lib.Dec.{eqb, leb}
use Rattle.ascii.proofs.Cases.{by_test}
use Rattle.tform.specs.declared.VariableArrayTy.{VariableArrayTy}
use Rattle.tform.specs.declared.TFormType.{TFormType}
use Rattle.tform.specs.declared.TFormType.TheVariants as F
use Rattle.tform.specs.Width.{element, items, can_scale}
use Rattle.layout.specs.declared.Column.{Column}
use Rattle.cell.specs.declared.DataValue.{DataValue}
use Rattle.cell.specs.declared.Field.{Field}
use Rattle.cell.specs.declared.Field.TheVariants.{Items, Descriptor, OutsideHeap}
use Rattle.cell.specs.Item.{width, raw_item, stored_number, is_null, item}
use Rattle.cell.specs.Field.{array, field32, field64, field_by, field}
use Rattle.cell.proofs.ScaledLaws.{is_scalable, by_letter}

-- whether a field of this form has descriptors that are not followed
abbrev pub is_unfollowed : TFormType → Bool → Bool
is_unfollowed (F.Items ty) heap = false
is_unfollowed (F.P ty) heap = not heap
is_unfollowed (F.Q ty) heap = not heap

-- whether both readings give the same for a column of this form
abbrev pub is_unscaled : TFormType → Bool → Bool
is_unscaled f heap = not (can_scale f) || is_unfollowed f heap

-- a field of this form: its items are of the form's element, and there is none where a descriptor is not followed
abbrev pub Suits : TFormType → Bool → Field → Type 0
Suits f heap (Items ty at n) = (ty ≡ element f) × (is_unfollowed f heap ≡ true → n ≡ 0)
Suits f heap (Descriptor v) = is_scalable v ≡ false
Suits f heap OutsideHeap = Unit {0}

-- an array that is followed
array_suits : (f : TFormType) (theap end : ℕ) (ty : VariableArrayTy) (n o : ℕ) → ty ≡ element f → Suits f true (array theap end ty n o)
unfolding array
array_suits f theap end ty n o e =
    by_test (Suits f true) (eqb n 0) (λ t. (e, λ u. refl))
    (λ t. by_test (Suits f true) (leb (theap + o + items ty n * width ty) end) (λ u. (e, followed f)) (λ u. tt))
  where
    followed : (f : TFormType) {A : Type 0} → is_unfollowed f true ≡ true → A
    followed (F.Items ty) h = absurd (true≢false (sym h))
    followed (F.P ty) h = absurd (true≢false (sym h))
    followed (F.Q ty) h = absurd (true≢false (sym h))

by_form : (f : TFormType) (a : List ℕ) (p n : ℕ) (heap : Bool) (theap end : ℕ) → Suits f heap (field_by a p f n heap theap end)
unfolding field32 field64
by_form (F.Items ty) a p n heap theap end = (refl, λ h. absurd (true≢false (sym h)))
by_form (F.P ty) a p n true theap end =
    by_test (Suits (F.P ty) true) (eqb n 0) (λ t. (refl, λ h. refl)) (λ t. array_suits (F.P ty) theap end ty _ _ refl)
by_form (F.P ty) a p n false theap end =
    by_test (Suits (F.P ty) false) (eqb n 0) (λ t. (refl, λ h. refl)) (λ t. refl)
by_form (F.Q ty) a p n true theap end =
    by_test (Suits (F.Q ty) true) (eqb n 0) (λ t. (refl, λ h. refl)) (λ t. array_suits (F.Q ty) theap end ty _ _ refl)
by_form (F.Q ty) a p n false theap end =
    by_test (Suits (F.Q ty) false) (eqb n 0) (λ t. (refl, λ h. refl)) (λ t. refl)

pub field_suits : (a : List ℕ) (p : ℕ) (column : Column) (heap : Bool) (theap end : ℕ)
    → Suits column.form heap (field a p column heap theap end)
unfolding field
field_suits a p column heap theap end = by_form column.form a p column.count heap theap end

-- the items that such a field has are not scaled
pub items_unscaled : (column : Column) (ty : VariableArrayTy) (heap : Bool) (at n k : ℕ) (a : List ℕ) (p : ℕ)
    → Suits column.form heap (Items ty at n) → k < n → is_unscaled column.form heap ≡ true → is_scalable (item column ty a p) ≡ false
unfolding item
items_unscaled column ty heap at n k a p s h u =
    by_test (λ (v : DataValue). is_scalable v ≡ false) (is_null column.null (stored_number (raw_item ty a p))) (λ e. refl)
    (λ e. rw s.0 (by_letter column.form a p ∙ by_scale (can_scale column.form) u))
  where
    by_scale : (t : Bool) → (not t || is_unfollowed column.form heap) ≡ true → t ≡ false
    by_scale true v = absurd (let z : n ≡ 0 = s.1 v in omega (arith, h))
    by_scale false v = refl
