-- The scaling of a column. Without TSCALn and TZEROn it is the factor 1 and the zero 0, and check 16 accepts
-- (`unscaled`). Where the entry accepts, factor and zero are the real numbers of their records, or 1 and 0 where there
-- is none (`scaling_read`).
-- Assumes nothing.
use Rattle.std.specs.Prelude.{Option, Some, None, is_some}
use Rattle.std.specs.Option.{unwrap_or}
use mathlib.Core.Path.{◌≡◌, refl, sym, ◌∙◌, ap, subst}
use mathlib.Core.Bool.{Bool, true, false, not, ◌||◌}
use mathlib.Core.List.{List}
use Prim.Native.Nat.{ℕ, zero, suc, ◌+◌, ◌<◌}
use native.Mathlib.Numerals.{add-one}
use native.Mathlib.Omega.{arith}
use lib.Dec.{ltb}
use lib.ListN.{get_or}
use borrow.Author.Tests.{ltb-true, ltb-false}
use Rattle.ascii.proofs.Cases.{either, both}
use Rattle.header.specs.Records.{found}
use Rattle.header.proofs.Becomes.{not_found}
use Rattle.refusal.specs.Refusal.{accepted}
use Rattle.tform.specs.declared.TFormType.{TFormType}
use Rattle.tform.specs.Width.{can_scale}
use Rattle.layout.specs.declared.BinTable.{BinTable}
use Rattle.layout.specs.Layout.{no_scaling, no_column}
use Rattle.bintable.specs.Checks.{size_for, tscal_of, tzero_of, scaling_given, twice, factor_of, zero_of, scaling_ok, check16}
use Rattle.bintable.specs.Entry.{form_for, type_in, column_check, column_checks, column_at, scaling_of, layout_of, entry}
use Rattle.bintable.specs.Entry as E
use Rattle.bintable.proofs.Bounds.{both_accepted, first_accepted}
use Rattle.bintable.proofs.Filled.{checks_next}
use Rattle.bintable.proofs.Entered.{column_in}
use Rattle.bintable.proofs.Kept.{passes, entry_layout, entry_columns}

neither : (t u : Bool) → (t || u) ≡ false → (t ≡ false) × (u ≡ false)
neither true u e = cc
neither false u e = (refl, e)

pub not_true : (t : Bool) → not t ≡ true → t ≡ false
not_true true e = cc
not_true false e = refl

its_value : {A : Type 0} (o : Option A) (d : A) → is_some o ≡ true → o ≡ Some (unwrap_or o d)
its_value (Some x) d e = refl
its_value None d e = cc

module _ (h : List ℕ) where
  module _ (n : ℕ) where
    -- without the two keywords
    module _ (none : scaling_given h n ≡ false) where
      no_records : (tscal_of h n ≡ None) × (tzero_of h n ≡ None)
      unfolding scaling_given
      no_records =
          let e = neither (found (tscal_of h n)) (found (tzero_of h n)) none in
          (not_found (tscal_of h n) e.0, not_found (tzero_of h n) e.1)

      pub none_given : no_scaling ≡ scaling_of h n
      unfolding scaling_of
      none_given = rw (no_records.0, no_records.1)

      pub unscaled : (at : ℕ) (f : TFormType)
          → ((column_at h n at).scaling_given ≡ false) × ((column_at h n at).scaling ≡ no_scaling) × (check16 h n f ≡ accepted)
      unfolding check16
      unscaled at f = (none, sym none_given, rw none)

      both_numbers : (is_some (factor_of h n) ≡ true) × (is_some (zero_of h n) ≡ true)
      both_numbers = (rw no_records.0, rw no_records.1)

    -- where 16 accepts
    module _ (f : TFormType) (passed : check16 h n f ≡ accepted) where
      allowed : scaling_given h n ≡ true → scaling_ok h n f ≡ true
      unfolding check16
      allowed s = let t = passes (not (scaling_given h n) || scaling_ok h n f) 16 n passed in rw s at t

      suits : scaling_given h n ≡ true → (can_scale f ≡ true) × (twice h n ≡ false)
      suits s =
          let t = both (can_scale f) _ (allowed s) in
          (t.0, not_true (twice h n) (both (not (twice h n)) _ t.1).0)

      are_numbers : (is_some (factor_of h n) ≡ true) × (is_some (zero_of h n) ≡ true)
      are_numbers =
          either (scaling_given h n)
          (λ s. both (is_some (factor_of h n)) _ (both (not (twice h n)) _ (both (can_scale f) _ (allowed s)).1).1)
          both_numbers

      numbers : (factor_of h n ≡ Some (scaling_of h n).factor) × (zero_of h n ≡ Some (scaling_of h n).zero)
      unfolding scaling_of
      numbers = (its_value (factor_of h n) no_scaling.factor are_numbers.0, its_value (zero_of h n) no_scaling.zero are_numbers.1)

    sixteen : column_check h n ≡ accepted → check16 h n (type_in (form_for h n)) ≡ accepted
    unfolding column_check
    sixteen e =
        let a = first_accepted _ _ e in let b = first_accepted _ _ a.1 in let c = first_accepted _ _ b.1 in
        let d = first_accepted _ _ c.1 in (first_accepted _ _ d.1).0

  pub one_passes : (k m : ℕ) → column_checks h m ≡ accepted → k < m → column_check h (k + 1) ≡ accepted
  one_passes k zero e p = absurd (omega arith)
  one_passes k (suc m) e p =
      let b = both_accepted (column_checks h m) (column_check h (m + 1)) (checks_next h m ∙ ap (column_checks h) (add-one m) ∙ e) in
      either (ltb k m) (λ t. one_passes k m b.0 (ltb-true k m t))
      (λ t. let q : k ≡ m = omega (arith, ltb-false k m t) in rw q b.1)

  -- the scaling of column c, from 0, of a layout that the entry returns
  module _ (a : List ℕ) (l : BinTable) (taken : entry h a ≡ E.accepted l) (c : ℕ) (p : c < l.tfields) where
    pub column_is : (b : ℕ) × (get_or l.columns c no_column ≡ column_at h (c + 1) b)
    column_is =
        let P : BinTable → Type 0 =
        λ m. c < m.tfields → (b : ℕ) × (get_or m.columns c no_column ≡ column_at h (c + 1) b) in
        subst P (sym (entry_layout h a l taken)) (column_in h c) p

    pub inside : c < size_for h "TFIELDS"
    unfolding layout_of
    inside = subst (λ (m : BinTable). c < m.tfields) (entry_layout h a l taken) p

    passed16 : check16 h (c + 1) (type_in (form_for h (c + 1))) ≡ accepted
    passed16 = sixteen (c + 1) (one_passes c (size_for h "TFIELDS") (entry_columns h a l taken) inside)

    pub scaling_read : let column = get_or l.columns c no_column in
        (column.scaling_given ≡ scaling_given h (c + 1))
        × (factor_of h (c + 1) ≡ Some column.scaling.factor) × (zero_of h (c + 1) ≡ Some column.scaling.zero)
        × (column.scaling_given ≡ true → (can_scale column.form ≡ true) × (twice h (c + 1) ≡ false))
    scaling_read =
        let f = type_in (form_for h (c + 1)) in let v = numbers (c + 1) f passed16 in
        rw column_is.1 (refl, v.0, v.1, suits (c + 1) f passed16)
