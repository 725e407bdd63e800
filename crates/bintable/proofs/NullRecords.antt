-- The records of TNULLn and their integers. Where the entry accepts, the value field of each is the text of an integer of
-- 19 digits at most, and the null is that integer (`null_written`). And check 17 accepts every such text, and refuses
-- all else (`column_with_null`, `bad_null`).
-- Assumes nothing.
use Rattle.std.specs.Prelude.{Some, None}
use mathlib.Core.Path.{◌≡◌, sym, ◌∙◌, ap}
use mathlib.Core.Bool.{true, false, not, or-true}
use mathlib.Core.List.{List, ◌++◌}
use Prim.Native.Nat.{ℕ, ◌+◌, ◌<◌}
use native.Mathlib.Omega.{arith}
use lib.IntN.{ℤ}
use lib.ListN.{get_or}
use Rattle.ascii.specs.Text.{bytes}
use Rattle.ascii.proofs.Cases.{either}
use Rattle.card.specs.Record.{card_at, has_value}
use Rattle.card.specs.Value.{integer_value, wide_of}
use Rattle.card.proofs.Integers.{IntegerText, text_read, read_written}
use Rattle.keyword.specs.Names.{numeral}
use Rattle.refusal.specs.Refusal.{accepted, refused}
use Rattle.tform.specs.declared.TFormType.{TFormType}
use Rattle.tform.specs.declared.TForm.{TForm}
use Rattle.tform.specs.Width.{can_have_null}
use Rattle.layout.specs.declared.BinTable.{BinTable}
use Rattle.layout.specs.Layout.{no_column}
use Rattle.bintable.specs.Checks.{is_string, value_at, tform_of, ttype_of, tnull_of, null_given, null_twice, null_number, null_ok, wide_at, check4, check5, check16, check17}
use Rattle.bintable.specs.Entry.{form_for, column_check, null_from, entry}
use Rattle.bintable.specs.Entry as E
use Rattle.bintable.proofs.Nulls.{given_some, without_null, allowed, null_says}
use Rattle.bintable.proofs.RealRecords.{named_value, value_text, by_sixteen}

module _ (h : List ℕ) where
  wide_text : (k : ℕ) → has_value (card_at h k) ≡ true → wide_of h k ≡ integer_value 19 (value_text h k)
  unfolding wide_of
  wide_text k v = rw v

  text_of : (k : ℕ) (z : ℤ) → wide_of h k ≡ Some z → IntegerText 19 (value_text h k) z
  unfolding wide_of
  text_of k z e =
      either (has_value (card_at h k)) (λ t. read_written 19 z (value_text h k) (rw t at e))
      (λ t. let q : None ≡ Some z = rw t at e in cc)

  -- the null of column c, from 0, of a layout that the entry returns is the integer that is written
  pub null_written : (a : List ℕ) (l : BinTable) → entry h a ≡ E.accepted l → (c : ℕ) → c < l.tfields → (k : ℕ) → tnull_of h (c + 1) ≡ Some k
      → (z : ℤ) × IntegerText 19 (value_text h k) z × ((get_or l.columns c no_column).null ≡ null_from (Some z))
  null_written a l taken c p k e = let s = null_says h a l taken c p k e in (s.0, text_of k s.0 s.1, s.2)

  module _ (n : ℕ) where
    -- the column can have a null, and it is an integer and given once
    pub record HasNull (f : TFormType) : Type 0 where
      pub can : can_have_null f ≡ true
      pub once : null_twice h n ≡ false
      pub place : ℕ
      pub stands : tnull_of h n ≡ Some place
      pub number : ℤ
      pub text : IntegerText 19 (value_text h place) number

    null_is_ok : (f : TFormType) → HasNull f → null_ok h n f ≡ true
    unfolding bytes
    null_is_ok f s =
        let v = named_value h (bytes "TNULL" ++ numeral n) s.place (omega arith) s.stands in
        let q : null_number h n ≡ Some s.number =
        ap (wide_at h) s.stands ∙ wide_text s.place v ∙ text_read 19 (value_text h s.place) s.number s.text in
        rw (s.can, s.once, q)

    pub with_null : (f : TFormType) → HasNull f → check17 h n f ≡ accepted
    unfolding check17
    with_null f s = rw (null_is_ok f s, or-true (not (null_given h n)))

    has_null : (f : TFormType) → null_given h n ≡ true → check17 h n f ≡ accepted → HasNull f
    has_null f given passed =
        let a = allowed h n f passed given in let r = given_some (tnull_of h n) given in
        let z = given_some (null_number h n) a.2 in
        record {
          can = a.0;
          once = a.1;
          place = r.0;
          stands = r.1;
          number = z.0;
          text = text_of r.0 z.0 (sym (ap (wide_at h) r.1) ∙ z.1);
        }

    -- a column that passes 4, 5, 8, 5 and 16
    module _ (f : TForm) (four : check4 n (tform_of h n) ≡ accepted)
        (five : check5 (is_string (value_at h (tform_of h n))) (tform_of h n) ≡ accepted) (form : form_for h n ≡ Some f)
        (name : check5 (is_string (value_at h (ttype_of h n))) (ttype_of h n) ≡ accepted) (sixteen : check16 h n f.form ≡ accepted) where
      by_seventeen : column_check h n ≡ check17 h n f.form
      by_seventeen = by_sixteen h n f four five form name ∙ rw sixteen

      -- is accepted without a null, and with one where it can have it
      pub column_without_null : null_given h n ≡ false → column_check h n ≡ accepted
      column_without_null none = by_seventeen ∙ (without_null h n none 0 f.form).1

      pub column_with_null : HasNull f.form → column_check h n ≡ accepted
      column_with_null s = by_seventeen ∙ with_null f.form s

      -- and is refused with 17 and its number in any other case
      pub bad_null : null_given h n ≡ true → (HasNull f.form → ⊥) → column_check h n ≡ refused 17 n
      unfolding check17
      bad_null given bad =
          by_seventeen
          ∙ either (null_ok h n f.form) (λ t. absurd (bad (has_null f.form given (rw (t, or-true (not (null_given h n))))))) (λ t. rw (given, t))
