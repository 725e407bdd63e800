-- A bad form is refused with 8 and the number of its column, where checks 4 and 5 of TFORMn pass. So is each text of P or Q with a count
-- above 1, whatever else it holds (`bad_count`).
-- Assumes nothing.
use Rattle.std.specs.Prelude.{Some, None}
use Prim.Native.Nat.{ℕ, ◌<◌}
use mathlib.Core.Path.{◌≡◌}
use mathlib.Core.List.{List}
use lib.ListN.{drop}
use Rattle.ascii.specs.Text.{front, digit}
use Rattle.refusal.specs.Refusal.{accepted, refused}
use Rattle.tform.specs.declared.TFormType.{TFormType}
use Rattle.tform.specs.Width.{count_limit}
use Rattle.tform.specs.Form.{repeat_count, kind_of}
use Rattle.tform.proofs.Count.{bad_count}
use Rattle.bintable.specs.Checks.{is_string, text_in, value_at, tform_of, check4, check5, first_refusal}
use Rattle.bintable.specs.Entry.{form_for, column_check}

module _ (h : List ℕ) (n : ℕ) (four : check4 n (tform_of h n) ≡ accepted)
    (five : check5 (is_string (value_at h (tform_of h n))) (tform_of h n) ≡ accepted) where
  pub bad_form : form_for h n ≡ None → column_check h n ≡ refused 8 n
  unfolding column_check first_refusal
  bad_form bad = rw (four, five, bad)

  -- s is the text of TFORMn
  pub count_refused : (s : List ℕ) (f : TFormType) → s ≡ text_in h (value_at h (tform_of h n)) → kind_of (drop (front digit s) s) ≡ Some f
      → count_limit f < repeat_count s → column_check h n ≡ refused 8 n
  count_refused s f e is many = bad_form (rw e at (bad_count s f is many))
