-- Two data areas with the same bytes at a place have the same number, the same item and the same field there.
-- Assumes nothing.
use Prim.Native.Nat.{ℕ, zero, suc, ◌+◌, ◌*◌, ◌≤◌, ◌<◌}
use mathlib.Core.Path.{◌≡◌, refl, ap, ap₂}
use mathlib.Core.Bool.{Bool}
use mathlib.Core.List.{List}
use native.Mathlib.Omega.{arith}
use lib.Dec.{eqb}
use lib.ListN.{get_or}
use borrow.Author.Tests.{eqb-false}
use Rattle.ascii.specs.Text.{bytes}
use Rattle.ascii.proofs.Cases.{either}
use Rattle.tform.specs.declared.VariableArrayTy.{VariableArrayTy}
use Rattle.tform.specs.declared.VariableArrayTy.TheVariants as T
use Rattle.tform.specs.declared.TFormType.{TFormType}
use Rattle.tform.specs.declared.TFormType.TheVariants as F
use Rattle.tform.specs.Width.{among, letter_width, field_bytes}
use Rattle.layout.specs.declared.Column.{Column}
use Rattle.layout.specs.Layout.{column_bytes}
use Rattle.cell.specs.Item.{word, width, raw_item, value_in, item}
use Rattle.cell.specs.Field.{field32, field64, field_by, field}

module _ (a b : List ℕ) where
  -- the two areas have the same k bytes from place p on
  abbrev pub SameBytes : ℕ → ℕ → Type 0
  SameBytes p k = (i : ℕ) → p ≤ i → i < p + k → get_or a i 0 ≡ get_or b i 0

  pub word_same : (p k : ℕ) → SameBytes p k → word a p k ≡ word b p k
  unfolding word
  word_same p zero h = refl
  word_same p (suc k) h =
      ap₂ (λ (x y : ℕ). x * 256 + y) (word_same p k (λ i l u. h i l (omega arith))) (h (p + k) (omega arith) (omega arith))

  raw_same : (ty : VariableArrayTy) (p : ℕ) → SameBytes p (width ty) → raw_item ty a p ≡ raw_item ty b p
  unfolding letter_width among bytes
  raw_same T.L p h = rw (word_same p 1 h)
  raw_same T.X p h = rw (word_same p 1 h)
  raw_same T.B p h = rw (word_same p 1 h)
  raw_same T.I p h = rw (word_same p 2 h)
  raw_same T.J p h = rw (word_same p 4 h)
  raw_same T.K p h = rw (word_same p 8 h)
  raw_same T.A p h = rw (word_same p 1 h)
  raw_same T.E p h = rw (word_same p 4 h)
  raw_same T.D p h = rw (word_same p 8 h)
  raw_same T.C p h =
      rw (word_same p 4 (λ i l u. h i l (omega arith)), word_same (p + 4) 4 (λ i l u. h i (omega arith) (omega arith)))
  raw_same T.M p h =
      rw (word_same p 8 (λ i l u. h i l (omega arith)), word_same (p + 8) 8 (λ i l u. h i (omega arith) (omega arith)))

  pub item_same : (column : Column) (ty : VariableArrayTy) (p : ℕ) → SameBytes p (width ty) → item column ty a p ≡ item column ty b p
  unfolding item
  item_same column ty p h = ap (value_in column) (raw_same ty p h)

  by_form : (f : TFormType) (p n : ℕ) (heap : Bool) (theap end : ℕ) → SameBytes p (field_bytes f n)
      → field_by a p f n heap theap end ≡ field_by b p f n heap theap end
  unfolding field32 field64 letter_width among bytes
  by_form (F.Items ty) p n heap theap end h = refl
  by_form (F.P ty) p n heap theap end h =
      either (eqb n 0) (λ z. rw z)
      (λ z.
      let there : 1 ≤ n = omega (arith, eqb-false n 0 z) in
      rw (
        word_same p 4 (λ i l u. h i l (omega arith)),
        word_same (p + 4) 4 (λ i l u. h i (omega arith) (omega arith)),
      ))
  by_form (F.Q ty) p n heap theap end h =
      either (eqb n 0) (λ z. rw z)
      (λ z.
      let there : 1 ≤ n = omega (arith, eqb-false n 0 z) in
      rw (
        word_same p 8 (λ i l u. h i l (omega arith)),
        word_same (p + 8) 8 (λ i l u. h i (omega arith) (omega arith)),
      ))

  pub field_same : (p : ℕ) (column : Column) (heap : Bool) (theap end : ℕ) → SameBytes p (column_bytes column)
      → field a p column heap theap end ≡ field b p column heap theap end
  unfolding field
  field_same p column heap theap end h = by_form column.form p column.count heap theap end h
