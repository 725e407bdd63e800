-- The null of a column. Where the entry accepts, it is the integer of the column's TNULLn, and there is none where that
-- record is missing (`null_read`, `null_says`, `null_missing`). A number of 64 bits is the null just where it is that
-- integer (`is_number`, `number_is`).
-- Assumes nothing.
use Rattle.std.specs.Prelude.{Option, Some, None, is_some}
use Rattle.std.specs.Int.RustNames.{FitsSigned}
use mathlib.Core.Path.{◌≡◌, refl, sym, ◌∙◌, ap}
use mathlib.Core.Bool.{true, false, not, ◌||◌}
use mathlib.Core.List.{List}
use Prim.Native.Nat.{ℕ, ◌+◌, ◌^◌, ◌<◌}
use lib.IntN.{ℤ, pos, negsuc}
use lib.ListN.{get_or}
use borrow.Author.Tests.{lt-ltb, ltb-true}
use mir.Syntax.{w64}
use Rattle.ascii.proofs.Cases.{either, both}
use Rattle.card.specs.Value.{wide_of}
use Rattle.header.specs.Records.{found}
use Rattle.refusal.specs.Refusal.{accepted}
use Rattle.tform.specs.declared.TFormType.{TFormType}
use Rattle.tform.specs.Width.{can_have_null}
use Rattle.layout.specs.declared.Null.TheVariants as N
use Rattle.layout.specs.declared.BinTable.{BinTable}
use Rattle.layout.specs.Layout.{no_column}
use Rattle.bintable.specs.Checks.{size_for, wide_at, tnull_of, null_given, null_twice, null_number, null_ok, check17}
use Rattle.bintable.specs.Entry.{form_for, type_in, column_check, column_at, fits_64_bits, null_from, null_of, entry}
use Rattle.bintable.specs.Entry as E
use Rattle.bintable.proofs.Bounds.{first_accepted}
use Rattle.bintable.proofs.Kept.{passes, entry_columns}
use Rattle.header.proofs.Becomes.{not_found}
use Rattle.bintable.proofs.Scaled.{not_true, one_passes, column_is, inside}

-- ---- which numbers the null is

fits_is : (z : ℤ) → fits_64_bits z ≡ true → FitsSigned w64 z
fits_is (pos n) e = record { sfits = ltb-true n (2 ^ 63) e }
fits_is (negsuc n) e = record { sfits = ltb-true n (2 ^ 63) e }

is_fits : (z : ℤ) → FitsSigned w64 z → fits_64_bits z ≡ true
is_fits (pos n) e = lt-ltb n (2 ^ 63) e.sfits
is_fits (negsuc n) e = lt-ltb n (2 ^ 63) e.sfits

-- the null of an integer z is a number where z is that number, which 64 bits with a sign hold
pub is_number : (z m : ℤ) → null_from (Some z) ≡ N.Number m → (z ≡ m) × FitsSigned w64 z
is_number z m e =
    either (fits_64_bits z)
    (λ t. let q : N.Number z ≡ N.Number m = rw t at e in (cc, fits_is z t))
    (λ t. let q : N.OutOfRange ≡ N.Number m = rw t at e in cc)

pub number_is : (z : ℤ) → FitsSigned w64 z → null_from (Some z) ≡ N.Number z
number_is z f = rw (is_fits z f)

pub given_some : {A : Type 0} (o : Option A) → is_some o ≡ true → (z : A) × (o ≡ Some z)
given_some (Some z) e = (z, refl)
given_some None e = cc

module _ (h : List ℕ) where
  module _ (n : ℕ) where
    -- without the record
    module _ (none : null_given h n ≡ false) where
      pub none_null : N.NotGiven ≡ null_of h n
      unfolding null_of
      none_null = rw (not_found (tnull_of h n) none)

      pub without_null : (at : ℕ) (f : TFormType) → ((column_at h n at).null ≡ N.NotGiven) × (check17 h n f ≡ accepted)
      unfolding check17
      without_null at f = (sym none_null, rw none)

    -- where 17 accepts
    pub allowed : (f : TFormType) → check17 h n f ≡ accepted → null_given h n ≡ true
        → (can_have_null f ≡ true) × (null_twice h n ≡ false) × (is_some (null_number h n) ≡ true)
    unfolding check17
    allowed f passed s =
        let t = passes (not (null_given h n) || null_ok h n f) 17 n passed in
        let u : null_ok h n f ≡ true = rw s at t in
        let a = both (can_have_null f) _ u in
        let b = both (not (null_twice h n)) _ a.1 in
        (a.0, not_true (null_twice h n) b.0, b.1)

    seventeen : column_check h n ≡ accepted → check17 h n (type_in (form_for h n)) ≡ accepted
    unfolding column_check
    seventeen e =
        let a = first_accepted _ _ e in let b = first_accepted _ _ a.1 in let c = first_accepted _ _ b.1 in
        let d = first_accepted _ _ c.1 in let g = first_accepted _ _ d.1 in (first_accepted _ _ g.1).0

  -- the null of column c, from 0, of a layout that the entry returns
  module _ (a : List ℕ) (l : BinTable) (taken : entry h a ≡ E.accepted l) (c : ℕ) (p : c < l.tfields) where
    passed17 : check17 h (c + 1) (type_in (form_for h (c + 1))) ≡ accepted
    passed17 = seventeen (c + 1) (one_passes h c (size_for h "TFIELDS") (entry_columns h a l taken) (inside h a l taken c p))

    pub null_read : let column = get_or l.columns c no_column in
        (column.null ≡ null_of h (c + 1))
        × (null_given h (c + 1) ≡ true
        → (can_have_null column.form ≡ true) × (null_twice h (c + 1) ≡ false) × (is_some (null_number h (c + 1)) ≡ true))
    null_read = rw (column_is h a l taken c p).1 (refl, allowed (c + 1) (type_in (form_for h (c + 1))) passed17)

    -- the record of TNULLn holds an integer, and the null is that one
    pub null_says : (k : ℕ) → tnull_of h (c + 1) ≡ Some k
        → (z : ℤ) × (wide_of h k ≡ Some z) × ((get_or l.columns c no_column).null ≡ null_from (Some z))
    unfolding null_of
    null_says k e =
        let g = given_some (null_number h (c + 1)) (null_read.1 (ap found e)).2 in
        (g.0, sym (ap (wide_at h) e) ∙ g.1, null_read.0 ∙ ap null_from g.1)

    -- no record, no null
    pub null_missing : tnull_of h (c + 1) ≡ None → (get_or l.columns c no_column).null ≡ N.NotGiven
    null_missing e = null_read.0 ∙ sym (none_null (c + 1) (ap found e))
