-- The count of a form: capped, it is still within the limit of the form just where the exact one is.
-- Assumes nothing.
use Rattle.std.specs.Prelude.{Option, Some, None}
use mathlib.Core.Path.{◌≡◌, refl, sym, ap, ◌∙◌}
use mathlib.Core.List.{List}
use mathlib.Core.Bool.{true, cond}
use Prim.Native.Nat.{ℕ, ◌≤◌, ◌<◌, min}
use native.Mathlib.Nat.{le_trans}
use native.Mathlib.Omega.{arith}
use lib.Dec.{eqb, leb}
use lib.ListN.{length, take, drop}
use lib.Seq.{length-take-le}
use borrow.Author.Tests.{le-leb, lt-leb, leb-true, leb-false}
use Rattle.ascii.specs.Text.{front, digit, decimal}
use Rattle.ascii.proofs.Cases.{either, by_test}
use Rattle.ascii.proofs.Front.{front_le}
use Rattle.ascii.proofs.Reading.{front_take}
use Rattle.tform.specs.declared.TFormType.{TFormType}
use Rattle.tform.specs.declared.TFormType.TheVariants.{Items, P, Q}
use Rattle.tform.specs.declared.TForm.{TForm}
use Rattle.tform.specs.Width.{count_limit, count_ok}
use Rattle.tform.specs.Form.{repeat_count, kind_of, counted, form_of}

-- the count that the code reads
abbrev pub capped_count : List ℕ → ℕ
capped_count s = cond (eqb (front digit s) 0) 1 (min 8388609 (decimal 0 (take (front digit s) s)))

-- the digits in front of a text
module _ (s d : List ℕ) (n : ℕ) (e : n ≡ front digit s) (f : d ≡ take n s) where
  length_digits : length d ≡ front digit s
  length_digits = ap length f ∙ length-take-le n s (omega (arith, e, front_le digit s)) ∙ e

  pub all_digits : front digit d ≡ length d
  all_digits = ap (front digit) f ∙ front_take digit s n (omega arith) ∙ e ∙ sym length_digits

  pub capped_digits : cond (eqb (length d) 0) 1 (min 8388609 (decimal 0 d)) ≡ capped_count s
  capped_digits = rw (length_digits, f, e)

capped_is : (s : List ℕ) → capped_count s ≡ min 8388609 (repeat_count s)
unfolding repeat_count
capped_is s = either (eqb (front digit s) 0) (λ e. rw e) (λ e. rw e)

-- the limit of each form is below the cap
limit_bound : (f : TFormType) → count_limit f ≤ 8388608
limit_bound (Items e) = omega arith
limit_bound (P e) = omega arith
limit_bound (Q e) = omega arith

-- a form with the count capped
counted_capped : (n : ℕ) (k : Option TFormType) → counted (min 8388609 n) k ≡ counted n k
counted_capped n (Some f) =
    either (leb n (count_limit f))
    (λ e. let q : min 8388609 n ≡ n = omega (arith, leb-true n (count_limit f) e, limit_bound f) in rw q)
    (λ e. rw (e, lt-leb (min 8388609 n) (count_limit f) (omega (arith, leb-false n (count_limit f) e, limit_bound f))))
counted_capped n None = refl

pub form_capped : (s : List ℕ) → counted (capped_count s) (kind_of (drop (front digit s) s)) ≡ form_of s
unfolding form_of
form_capped s = rw (capped_is s) (counted_capped (repeat_count s) (kind_of (drop (front digit s) s)))

-- the bound of a count that is within its limit
pub count_bound : (f : TFormType) (n : ℕ) → count_ok f n ≡ true → n ≤ 8388608
count_bound f n e = le_trans (leb-true n (count_limit f) e) (limit_bound f)

-- the form of a text whose letters are those of f: bad just where the count is above the limit, 1 for P and Q
module _ (s : List ℕ) (f : TFormType) (is : kind_of (drop (front digit s) s) ≡ Some f) where
  pub good_count : repeat_count s ≤ count_limit f → form_of s ≡ Some (record { form = f; count = repeat_count s })
  unfolding form_of
  good_count h = rw (is, le-leb (repeat_count s) (count_limit f) h)

  pub bad_count : count_limit f < repeat_count s → form_of s ≡ None
  unfolding form_of
  bad_count h = rw (is, lt-leb (repeat_count s) (count_limit f) h)

-- the count of a form that is read is within its limit
abbrev pub CountOk : Option TForm → Type 0
CountOk (Some t) = count_ok t.form t.count ≡ true
CountOk None = Unit {0}

counted_ok : (n : ℕ) (k : Option TFormType) → CountOk (counted n k)
counted_ok n (Some f) = by_test CountOk (count_ok f n) (λ e. e) (λ e. tt)
counted_ok n None = tt

pub form_ok : (s : List ℕ) → CountOk (form_of s)
unfolding form_of
form_ok s = counted_ok (repeat_count s) (kind_of (drop (front digit s) s))
