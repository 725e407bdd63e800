-- The layout that the entry returns keeps every limit and sum, its data area is long enough, and the header alone decides it.
-- Assumes nothing.
use Rattle.std.specs.Prelude.{Option, Some, None, Result, Ok, Err}
use mathlib.Core.Path.{◌≡◌, refl, sym, ◌∙◌, ap}
use mathlib.Core.Bool.{Bool, true, false, cond}
use mathlib.Core.List.{List}
use Prim.Native.Nat.{ℕ, zero, suc, ◌+◌, ◌≤◌}
use native.Mathlib.Omega.{arith}
use lib.Dec.{eqb, leb}
use lib.ListN.{length}
use borrow.Author.Tests.{eq-eqb, le-leb, leb-true}
use Rattle.ascii.proofs.Cases.{both}
use Rattle.refusal.specs.declared.Refusal.{Refusal}
use Rattle.refusal.specs.Refusal.{Outcome, before}
use Rattle.refusal.proofs.Decided.{check_of, check_back}
use Rattle.header.specs.Checks.{checked}
use Rattle.layout.specs.declared.Column.{Column}
use Rattle.layout.specs.declared.BinTable.{BinTable}
use Rattle.layout.specs.Layout.{empty_layout, column_bytes, row_bytes, columns_of, main_size, data_size, columns_ok, layout_ok}
use Rattle.bintable.specs.Checks.{not_negative, size_in, within, text_in, value_at, record_for, size_for, tform_of}
use Rattle.bintable.specs.Entry.{main_of, theap_check, theap_in, nine, nine_checks, column_checks, columns_from, layout_of, check9, check10, all_checks, Entry, accepted, refused, entry_by, entry, entry_of}
use Rattle.bintable.proofs.Bounds.{refused_not, both_accepted, first_accepted, unless_holds, size_limits}
use Rattle.bintable.proofs.Filled.{form_count, column_of}
use Rattle.bintable.proofs.Entered.{nine_sizes, nine_rest, nine_tfields, columns_of_lem, entry_parts}
use Rattle.refusal.specs.Refusal as O

-- a check that passes holds
pub passes : (t : Bool) (n p : ℕ) → cond t O.accepted (O.refused n p) ≡ O.accepted → t ≡ true
passes true n p e = refl
passes false n p e = refused_not n p e

module _ (h : List ℕ) where
  -- columns that are read from a header are in order, but for where the last one ends
  in_order : (end at n k : ℕ) → columns_ok end at (columns_from h at n k) ≡ eqb (at + row_bytes (columns_from h at n k)) end
  unfolding columns_ok columns_from row_bytes
  in_order end at n zero = ap (λ (b : ℕ). eqb b end) (omega arith)
  in_order end at n (suc k) =
      let c = column_of h at n in
      rw (form_count (text_in h (value_at h (tform_of h n))), eq-eqb at at refl)
      (in_order end (at + column_bytes c) (suc n) k
      ∙ ap (λ (b : ℕ). eqb b end) (omega arith))

  -- THEAP's range
  range : (r : Option ℕ) (main pcount : ℕ) → theap_check h r main pcount ≡ O.accepted
      → (main ≤ theap_in main (value_at h r) r) × (theap_in main (value_at h r) r ≤ main + pcount)
  unfolding theap_check
  range (Some k) main pcount e =
      let v = value_at h (Some k) in let a = first_accepted _ _ e in
      let t = unless_holds 6 (within main (main + pcount) v) k (first_accepted _ _ a.1).0 in
      let u = both (leb main (size_in v)) (leb (size_in v) (main + pcount)) (both (not_negative v) _ t).1 in
      (leb-true main (size_in v) u.0, leb-true (size_in v) (main + pcount) u.1)
  range None main pcount e = (omega arith, omega arith)

  theap_range : nine_checks h ≡ O.accepted → (main_size (layout_of h) ≤ (layout_of h).theap) × ((layout_of h).theap ≤ data_size (layout_of h))
  unfolding layout_of nine
  theap_range e =
      let a = first_accepted _ _ (nine_rest h e) in let b = first_accepted _ _ a.1 in
      range (record_for h "THEAP") (main_of h) (size_for h "PCOUNT") (first_accepted _ _ b.1).0

  limits : nine_checks h ≡ O.accepted
      → ((layout_of h).naxis1 ≤ 1048576) × (((layout_of h).naxis2 ≤ 16777216) × (((layout_of h).pcount ≤ 2147483647) × ((layout_of h).tfields ≤ 64)))
  unfolding layout_of
  limits e = let s = size_limits h (nine_sizes h e) in (s.0, (s.1.0, (s.1.1, nine_tfields h e)))

  sum : check9 (layout_of h) ≡ O.accepted → columns_ok (layout_of h).naxis1 0 (columns_of (layout_of h)) ≡ true
  unfolding check9
  sum e =
      let n = size_for h "TFIELDS" in let end = (layout_of h).naxis1 in
      ap (columns_ok end 0) (columns_of_lem h) ∙ in_order end 0 1 n ∙ ap (λ (b : ℕ). eqb b end) (omega arith)
      ∙ ap (λ (cs : List Column). eqb (row_bytes cs) end) (sym (columns_of_lem h)) ∙ passes (eqb (row_bytes (columns_of (layout_of h))) end) 9 0 e

  kept : nine_checks h ≡ O.accepted → check9 (layout_of h) ≡ O.accepted → layout_ok (layout_of h) ≡ true
  unfolding layout_ok
  kept e s =
      let l = limits e in let r = theap_range e in
      rw (le-leb _ _ l.0, le-leb _ _ l.1.0, le-leb _ _ l.1.1.0, le-leb _ _ l.1.1.1, le-leb _ _ r.0, le-leb _ _ r.1) (sum s)

  module _ (a : List ℕ) (l : BinTable) where
    passed : (o : Outcome) (m : BinTable) → entry_by o m ≡ accepted l → (o ≡ O.accepted) × (l ≡ m)
    passed O.accepted m e = (refl, cc)
    passed (O.refused n p) m e = cc

    parts : entry h a ≡ accepted l
        → ((nine_checks h ≡ O.accepted) × ((column_checks h (size_for h "TFIELDS") ≡ O.accepted) × (check9 (layout_of h) ≡ O.accepted)))
        × ((check10 (layout_of h) a ≡ O.accepted) × (l ≡ layout_of h))
    parts e =
        let q = passed (all_checks h a) (layout_of h) e in
        let w = both_accepted (before (checked h) (nine_checks h)) (before (before (column_checks h (size_for h "TFIELDS")) (check9 (layout_of h))) (check10 (layout_of h) a)) (sym (entry_parts h a) ∙ q.0) in
        let v = both_accepted (before (column_checks h (size_for h "TFIELDS")) (check9 (layout_of h))) (check10 (layout_of h) a) w.1 in
        (((both_accepted (checked h) (nine_checks h) w.0).1, both_accepted (column_checks h (size_for h "TFIELDS")) (check9 (layout_of h)) v.0), (v.1, q.1))

    -- the header alone decides the layout
    pub entry_layout : entry h a ≡ accepted l → l ≡ layout_of h
    entry_layout e = (parts e).1.1

    -- it keeps every limit and sum
    pub entry_ok : entry h a ≡ accepted l → layout_ok l ≡ true
    entry_ok e = let p = parts e in ap layout_ok p.1.1 ∙ kept p.0.0 p.0.1.1

    -- its columns pass their checks
    pub entry_columns : entry h a ≡ accepted l → column_checks h (size_for h "TFIELDS") ≡ O.accepted
    entry_columns e = (parts e).0.1.0

    -- the data area is long enough
    pub entry_long : entry h a ≡ accepted l → data_size l ≤ length a
    unfolding check10
    entry_long e = let p = parts e in rw p.1.1 (leb-true (data_size (layout_of h)) (length a) (passes (leb (data_size (layout_of h)) (length a)) 10 0 p.1.0))

-- ---- what the code returned

-- where it is a layout, the entry accepts that layout
pub parsed_entry : (h a : List ℕ) (l : BinTable) → entry_of (Ok l) ≡ entry h a → entry h a ≡ accepted l
parsed_entry h a l e = sym e

-- the entry decides it

given : Result Unit Refusal → BinTable → Result BinTable Refusal
given (Ok x) l = Ok l
given (Err r) l = Err r

returned : Entry → Result BinTable Refusal
returned (accepted l) = Ok l
returned (refused n p) = given (check_of (O.refused n p)) empty_layout

returned_back : (x : Result BinTable Refusal) → returned (entry_of x) ≡ x
unfolding returned given
returned_back (Ok l) = refl
returned_back (Err r) = ap (λ (k : Result Unit Refusal). given k empty_layout) (check_back (Err r))

pub entry_decides : (x y : Result BinTable Refusal) → entry_of x ≡ entry_of y → x ≡ y
entry_decides x y e = sym (returned_back x) ∙ ap returned e ∙ returned_back y
