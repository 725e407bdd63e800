-- The layout of a header that passes the nine checks, and the entry in parts.
-- Assumes nothing.
use mathlib.Core.Path.{◌≡◌, refl, sym, ◌∙◌, ap, subst}
use mathlib.Core.Bool.{cond}
use mathlib.Core.List.{List, ◌++◌}
use Prim.Native.Nat.{ℕ, ◌+◌, ◌-◌, ◌*◌, ◌^◌, ◌≤◌, ◌<◌}
use native.Mathlib.Omega.{arith}
use lib.Dec.{eqb}
use lib.ListN.{length, get_or, take, replicate, get_or-append}
use lib.Seq.{take-append_seam}
use Rattle.keyword.specs.Names.{index_limit}
use Rattle.refusal.specs.Refusal.{Outcome, accepted, refused, before}
use Rattle.header.specs.Checks.{checked}
use Rattle.header.proofs.Lengths.{length_small}
use Rattle.header.proofs.Lookup.{accepted_length}
use Rattle.layout.specs.Layout.{no_column, row_bytes, columns_of}
use Rattle.bintable.specs.Checks.{is_integer, within, record_for, size_for, first_refusal}
use Rattle.bintable.specs.Entry.{nine, nine_checks, column_checks, layout_of, check9, check10, header_checks, all_checks, entry_by, entry}
use Rattle.bintable.specs.Entry as E
use Rattle.bintable.proofs.Bounds.{value_limit, size_limits, main_limit, both_accepted, first_accepted}
use Rattle.bintable.proofs.Nine.{kinds, sizes, rest, nine_parts}
use Rattle.bintable.proofs.Filled.{column_of, columns_to, columns_length, column_from}

regroup : (c n k r t : Outcome) → before (before c (before n (before k (before r accepted)))) t ≡ before (before c n) (before (before k r) t)
regroup (refused x p) n k r t = refl
regroup accepted (refused x p) k r t = refl
regroup accepted accepted (refused x p) r t = refl
regroup accepted accepted accepted (refused x p) t = refl
regroup accepted accepted accepted accepted t = refl

module _ (h : List ℕ) where
  -- what the nine checks say, in their parts
  nine_both : nine_checks h ≡ accepted → (first_refusal (sizes h) ≡ accepted) × (first_refusal (rest h) ≡ accepted)
  nine_both e =
      let p = both_accepted (before (first_refusal (kinds h)) (first_refusal (sizes h))) (first_refusal (rest h)) (sym (nine_parts h) ∙ e) in
      ((both_accepted (first_refusal (kinds h)) (first_refusal (sizes h)) p.0).1, p.1)

  pub nine_sizes : nine_checks h ≡ accepted → first_refusal (sizes h) ≡ accepted
  nine_sizes e = (nine_both e).0

  pub nine_rest : nine_checks h ≡ accepted → first_refusal (rest h) ≡ accepted
  nine_rest e = (nine_both e).1

  pub nine_tfields : nine_checks h ≡ accepted → size_for h "TFIELDS" ≤ 64
  unfolding nine
  nine_tfields e = let a = first_accepted _ _ (nine_both e).1 in value_limit h (record_for h "TFIELDS") is_integer (within 0 index_limit) 64 (first_accepted _ _ a.1).0

  -- the columns of the layout
  pub columns_of_lem : columns_of (layout_of h) ≡ columns_to h (size_for h "TFIELDS")
  unfolding layout_of
  columns_of_lem =
      let n = size_for h "TFIELDS" in
      subst (λ (k : ℕ). take k (columns_to h n ++ replicate (64 - n) no_column) ≡ columns_to h n) (columns_length h 0 1 n)
      (take-append_seam (columns_to h n) (replicate (64 - n) no_column))

  -- column c, from 0, is that of n = c + 1
  pub column_in : (c : ℕ) → c < (layout_of h).tfields → (b : ℕ) × (get_or (layout_of h).columns c no_column ≡ column_of h b (c + 1))
  unfolding layout_of
  column_in c p =
      let n = size_for h "TFIELDS" in let r = column_from h 0 1 n c p in
      let i : c < length (columns_to h n) = omega (arith, columns_length h 0 1 n, p) in
      (r.0, get_or-append (columns_to h n) (replicate (64 - n) no_column) no_column c i ∙ r.1 ∙ ap (column_of h r.0) (omega arith))

  naxis1_of : (layout_of h).naxis1 ≡ size_for h "NAXIS1"
  unfolding layout_of
  naxis1_of = refl

  pub row_check : cond (eqb (row_bytes (columns_to h (size_for h "TFIELDS"))) (size_for h "NAXIS1")) accepted (refused 9 0) ≡ check9 (layout_of h)
  unfolding check9
  row_check = rw (columns_of_lem, naxis1_of)

  -- the sizes fit
  pub layout_size : nine_checks h ≡ accepted → ((layout_of h).naxis1 * (layout_of h).naxis2 ≤ 17592186044416) × ((layout_of h).pcount ≤ 2147483647)
  unfolding layout_of
  layout_size e = (main_limit h (nine_sizes e), (size_limits h (nine_sizes e)).1.1)

  pub header_short : checked h ≡ accepted → length h < 2 ^ 32
  header_short e = omega (arith, length_small h (accepted_length h e))

  pub entry_parts : (a : List ℕ) → all_checks h a ≡ before (before (checked h) (nine_checks h)) (before (before (column_checks h (size_for h "TFIELDS")) (check9 (layout_of h))) (check10 (layout_of h) a))
  unfolding all_checks header_checks first_refusal
  entry_parts a = regroup (checked h) (nine_checks h) (column_checks h (size_for h "TFIELDS")) (check9 (layout_of h)) (check10 (layout_of h) a)

  -- the entry of a header whose nine names pass, by what its columns and its rows come to
  module _ (a : List ℕ) (whole : checked h ≡ accepted) (names : nine_checks h ≡ accepted) where
    by_columns : (o : Outcome) → o ≡ before (column_checks h (size_for h "TFIELDS")) (check9 (layout_of h)) → all_checks h a ≡ before o (check10 (layout_of h) a)
    by_columns o e = rw (entry_parts a, whole, names, ← e)

    pub columns_refused : (n p : ℕ) → refused n p ≡ before (column_checks h (size_for h "TFIELDS")) (check9 (layout_of h)) → E.refused n p ≡ entry h a
    columns_refused n p e = ap (λ (o : Outcome). entry_by o (layout_of h)) (sym (by_columns (refused n p) e))

    pub by_area : (o : Outcome) → accepted ≡ before (column_checks h (size_for h "TFIELDS")) (check9 (layout_of h)) → o ≡ check10 (layout_of h) a
        → entry_by o (layout_of h) ≡ entry h a
    by_area o e f = ap (λ (q : Outcome). entry_by q (layout_of h)) (f ∙ sym (by_columns accepted e))

  -- the entry where the whole header is refused, or one of the nine names
  pub header_refused : (a : List ℕ) (n p : ℕ) → refused n p ≡ checked h → E.refused n p ≡ entry h a
  header_refused a n p e =
      let q : all_checks h a ≡ refused n p = rw (entry_parts a, ← e) in
      ap (λ (o : Outcome). entry_by o (layout_of h)) (sym q)

  pub names_refused : (a : List ℕ) (n p : ℕ) → checked h ≡ accepted → refused n p ≡ nine_checks h → E.refused n p ≡ entry h a
  names_refused a n p c e =
      let q : all_checks h a ≡ refused n p = rw (entry_parts a, c, ← e) in
      ap (λ (o : Outcome). entry_by o (layout_of h)) (sym q)
