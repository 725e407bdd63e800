-- Which cells are unset, from the header to the cell: in an accepted table those of a column with TNULLn whose items are
-- of type B, I, J or K and whose stored number is the integer of TNULLn, in either reading, and no others.
-- Assumes nothing.
use Rattle.std.specs.Prelude.{Option, Some, None, ◌↔◌}
use Rattle.std.specs.Prelude.{FitsSigned}
use Rattle.std.specs.Int.{w16, w32, w64}
use Prim.Native.Nat.{ℕ, ◌+◌, ◌*◌, ◌<◌}
use mathlib.Core.Path.{◌≡◌, refl, sym, ap, subst, ◌∙◌}
use mathlib.Core.Bool.{Bool, true}
use mathlib.Core.List.{List}
use lib.IntN.{ℤ, pos, negsuc}
use native.Mathlib.Omega.{arith}
use lib.ListN.{get_or}
use Rattle.tform.specs.declared.VariableArrayTy.{VariableArrayTy}
use Rattle.tform.specs.declared.VariableArrayTy.TheVariants as T
use Rattle.layout.specs.declared.Null.{Null}
use Rattle.layout.specs.declared.Null.TheVariants as N
use Rattle.layout.specs.declared.Column.{Column}
use Rattle.layout.specs.declared.BinTable.{BinTable}
use Rattle.layout.specs.Layout.{data_size}
use Rattle.tform.specs.Width.{element, can_have_null}
use Rattle.header.specs.Records.{found}
use Rattle.bintable.specs.Checks.{wide_at, tnull_of, null_number}
use Rattle.bintable.specs.Entry.{null_from, null_of, entry, accepted}
use Rattle.bintable.proofs.Nulls.{is_number, number_is, null_read}
use Rattle.cell.specs.declared.DataValue.TheVariants as D
use Rattle.cell.specs.Item.{width, raw_item, stored_number, item}
use Rattle.cell.proofs.Nulls.{raw_set, unset_exactly, as_stored, descriptor_set, scaled_unset}
use Rattle.cell.proofs.Ranges.{Storable, stored_range}
use Rattle.cell.proofs.Elements.{Suits, field_suits}
use Rattle.cell.specs.declared.Cell.{Cell}
use Rattle.cell.specs.declared.Field.{Field}
use Rattle.cell.specs.declared.Field.TheVariants as F
use Rattle.walk.specs.declared.TableData.{TableData}
use Rattle.walk.specs.declared.Reading.{Reading}
use Rattle.walk.specs.Plain.{column_of, field_at, field_of, item_at, entries_of, row_entries}
use Rattle.walk.specs.Scaled.{scaled_cell}
use Rattle.walk.specs.Walk.{Step}
use Rattle.walk.specs.Step.{cursor_step}
use Rattle.walk.specs.Readings.{reading_of}
use Rattle.walk.specs.Nulls.{stored_in, stored_of, UnsetRightly}
use Rattle.walk.proofs.Handed.{OfEntries, OfReply, reply_implies, cells_all, rows_all, rows_in, step_all}

widen_short : (z : ℤ) → FitsSigned w16 z → FitsSigned w64 z
widen_short (pos n) f = let g = f.sfits in record { sfits = omega arith }
widen_short (negsuc n) f = let g = f.sfits in record { sfits = omega arith }

widen_integer : (z : ℤ) → FitsSigned w32 z → FitsSigned w64 z
widen_integer (pos n) f = let g = f.sfits in record { sfits = omega arith }
widen_integer (negsuc n) f = let g = f.sfits in record { sfits = omega arith }

-- a number that a type can store fits 64 bits with a sign
storable_fits : (ty : VariableArrayTy) (z : ℤ) → Storable ty z → FitsSigned w64 z
storable_fits T.B z s = subst (FitsSigned w64) (sym s.1) (record { sfits = omega (arith, s.2) })
storable_fits T.I z s = widen_short z s
storable_fits T.J z s = widen_integer z s
storable_fits T.K z s = s
storable_fits T.L z s = absurd s
storable_fits T.X z s = absurd s
storable_fits T.A z s = absurd s
storable_fits T.E z s = absurd s
storable_fits T.D z s = absurd s
storable_fits T.C z s = absurd s
storable_fits T.M z s = absurd s

module _ (a : List ℕ) (below : (i : ℕ) → get_or a i 0 < 256) (column : Column) (ty : VariableArrayTy) (p : ℕ) where
  abbrev stored : Option ℤ
  stored = stored_number (raw_item ty a p)

  -- where the null is that of an integer z, of any size, an item is unset just where its stored number is z
  integer_null : (z : ℤ) → column.null ≡ null_from (Some z) → (item column ty a p ≡ D.Unset) ↔ (stored ≡ Some z)
  integer_null z e = (there column.null refl, back)
    where
      back : stored ≡ Some z → item column ty a p ≡ D.Unset
      back s =
          let f = storable_fits ty z (stored_range a below ty p z s) in
          (unset_exactly column ty a p z (e ∙ number_is z f)).1 s

      there : (n : Null) → column.null ≡ n → item column ty a p ≡ D.Unset → stored ≡ Some z
      there (N.Number m) q u =
          let w = is_number z m (sym e ∙ q) in
          (unset_exactly column ty a p m q).0 u ∙ ap Some (sym w.0)
      there N.NotGiven q u = absurd (raw_set ty a p (sym (as_stored column ty a p (λ m r. cc)) ∙ u))
      there N.OutOfRange q u = absurd (raw_set ty a p (sym (as_stored column ty a p (λ m r. cc)) ∙ u))

  -- where there is none, and where it is that of an integer
  by_number : (n : Option ℤ) → column.null ≡ null_from n → (item column ty a p ≡ D.Unset) ↔ ((z : ℤ) × (n ≡ Some z) × (stored ≡ Some z))
  by_number None e = (λ u. absurd (raw_set ty a p (sym (as_stored column ty a p none) ∙ u)), λ s. let q = s.1 in cc)
    where
      none : (m : ℤ) → column.null ≡ N.Number m → ⊥
      none m q = let r : N.NotGiven ≡ N.Number m = sym e ∙ q in cc
  by_number (Some z) e = (λ u. (z, refl, (integer_null z e).0 u), λ s. (integer_null z e).1 (s.2 ∙ sym s.1))

module _ (h a : List ℕ) (l : BinTable) (taken : entry h a ≡ accepted l) (b : List ℕ) (below : (i : ℕ) → get_or b i 0 < 256) where
  -- only columns of B, I, J and K have TNULLn
  number_type : (c : ℕ) → c < l.tfields → (z : ℤ) → null_number h (c + 1) ≡ Some z → can_have_null (column_of l c).form ≡ true
  number_type c p z e = ((null_read h a l taken c p).1 (given (tnull_of h (c + 1)) e)).0
    where
      given : (r : Option ℕ) → wide_at h r ≡ Some z → found r ≡ true
      given (Some k) s = refl
      given None s = cc

  -- an item of a column, or of one of its arrays, in any data area of bytes, is unset just where the column's items are of
  -- B, I, J or K, TNULLn gives an integer and this is the item's stored number
  pub item_unset : (c : ℕ) → c < l.tfields → (ty : VariableArrayTy) (at : ℕ)
      → (item (column_of l c) ty b at ≡ D.Unset)
      ↔ ((z : ℤ) × (can_have_null (column_of l c).form ≡ true) × (null_number h (c + 1) ≡ Some z)
      × (stored_number (raw_item ty b at) ≡ Some z))
  unfolding null_of
  item_unset c p ty at =
      let w = by_number b below (column_of l c) ty at (null_number h (c + 1)) (null_read h a l taken c p).0 in
      (λ u. let s = w.0 u in (s.0, number_type c p s.0 s.1, s.1, s.2), λ s. w.1 (s.0, s.2, s.3))

  module _ (heap : Bool) where
    abbrev Rightly : Cell → Type 0
    Rightly = UnsetRightly h l b heap

    entries_unset : (r c : ℕ) → c < l.tfields → (f : Field) → field_of l b heap r c ≡ f → OfEntries Rightly (entries_of (column_of l c) b r c f)
    unfolding entries_of field_of
    entries_unset r c p (F.Items ty at n) q =
        cells_all Rightly r c (item_at (column_of l c) b ty at) 0 n (λ k u w. rw q (item_unset c p ty (at + k * width ty)))
    entries_unset r c p (F.Descriptor v) q = (
      rw q (
        λ u. absurd (descriptor_set b (field_at l r c) (column_of l c) heap l.theap (data_size l) v q u),
        λ s. let e : None ≡ Some s.0 = s.3 in cc,
      ),
      tt,
    )
    entries_unset r c p F.OutsideHeap q = (tt, tt)

    scaled_rightly : (y : Cell) → Rightly y → Rightly (scaled_cell l y)
    scaled_rightly y w =
        let s = scaled_unset (column_of l y.column).scaling y.value in (λ e. w.0 (s.0 e), λ n. s.1 (w.1 n))

  -- every cell that a step hands out, in either reading, of any cursor
  pub handed_unset : (q : TableData) (x : Step)
      → OfReply (UnsetRightly h l b q.heap) (cursor_step l b q x).list (cursor_step l b q x).reply
  handed_unset q x =
      step_all (UnsetRightly h l b q.heap) l b q x
      (rows_in (λ (m : Reading). UnsetRightly h l b q.heap) l (row_entries l b q.choice q.heap) (scaled_rightly q.heap)
      (rows_all (UnsetRightly h l b q.heap) l b q.choice q.heap (λ r c hr hc e. entries_unset q.heap r c hc (field_of l b q.heap r c) refl))
      (reading_of x))

  -- the stored number of a cell's item is one that its column's type can store
  cell_storable : (heap : Bool) (y : Cell) (z : ℤ) → stored_of l b heap y ≡ Some z
      → Storable (element (column_of l y.column).form) z
  unfolding field_of
  cell_storable heap y z e =
      by (field_of l b heap y.row y.column)
      (field_suits b (field_at l y.row y.column) (column_of l y.column) heap l.theap (data_size l)) e
    where
      by : (f : Field) → Suits (column_of l y.column).form heap f → stored_in b f y.idx ≡ Some z
          → Storable (element (column_of l y.column).form) z
      by (F.Items ty at n) s e =
          subst (λ (t : VariableArrayTy). Storable t z) s.0 (stored_range b below ty (at + y.idx * width ty) z e)
      by (F.Descriptor v) s e = cc
      by F.OutsideHeap s e = cc

  -- an integer of TNULLn that the column's type cannot store is that of no cell: none of its column is unset
  abbrev pub SetOutside : Cell → Type 0
  SetOutside y =
      (z : ℤ) → null_number h (y.column + 1) ≡ Some z → (Storable (element (column_of l y.column).form) z → ⊥)
      → y.value ≡ D.Unset → ⊥

  pub handed_outside : (q : TableData) (x : Step)
      → OfReply SetOutside (cursor_step l b q x).list (cursor_step l b q x).reply
  handed_outside q x =
      reply_implies (UnsetRightly h l b q.heap) SetOutside each (cursor_step l b q x).list (cursor_step l b q x).reply
      (handed_unset q x)
    where
      each : (y : Cell) → UnsetRightly h l b q.heap y → SetOutside y
      each y w z e out u =
          let s = w.0 u in let same : s.0 ≡ z = cc in out (cell_storable q.heap y z (s.3 ∙ ap Some same))
