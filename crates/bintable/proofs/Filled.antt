-- The columns of a header, one more at the end; their counts, bytes and names are bounded.
-- Assumes nothing.
use Rattle.std.specs.Prelude.{Option, Some, None}
use mathlib.Core.Path.{◌≡◌, refl, sym, ◌∙◌, ap}
use mathlib.Core.Bool.{true}
use mathlib.Core.List.{List, [], ◌∷◌, ◌++◌, map, append_assoc}
use Prim.Native.Nat.{ℕ, zero, suc, ◌+◌, ◌-◌, ◌*◌, ◌^◌, ◌≤◌, ◌<◌}
use native.Mathlib.Nat.{add-zero, add-suc, suc-add, le_of_suc-le-suc, not-suc-le-zero}
use native.Mathlib.Numerals.{add-one}
use native.Mathlib.Omega.{arith}
use lib.ListN.{length, get_or, replicate, set}
use lib.Seq.{set_at}
use Rattle.card.specs.declared.Value.TheVariants.{String}
use Rattle.card.proofs.Inside.{value_inside}
use Rattle.std.proofs.lemmas.List.{map_push}
use Rattle.keyword.specs.Names.{range}
use Rattle.keyword.proofs.Position.{range_append}
use Rattle.refusal.specs.Refusal.{Outcome, accepted, refused, before}
use Rattle.tform.specs.declared.TForm.{TForm}
use Rattle.tform.specs.Width.{count_ok}
use Rattle.tform.specs.Form.{form_of}
use Rattle.tform.proofs.Count.{count_bound, CountOk, form_ok}
use Rattle.tform.proofs.Widths.{field_bytes_bound}
use Rattle.layout.specs.declared.Column.{Column}
use Rattle.layout.specs.Layout.{no_column, column_bytes, row_bytes}
use Rattle.bintable.specs.Checks.{text_in, value_at, tform_of, first_refusal}
use Rattle.bintable.specs.Entry.{column_check, column_checks, type_in, count_in, column_at, columns_from}
use Rattle.bintable.proofs.Checked.{first_snoc}

-- ---- a form's count

ok_in : (f : Option TForm) → CountOk f → count_ok (type_in f) (count_in f) ≡ true
ok_in (Some f) e = e
ok_in None e = refl

pub form_count : (s : List ℕ) → count_ok (type_in (form_of s)) (count_in (form_of s)) ≡ true
form_count s = ok_in (form_of s) (form_ok s)

-- ---- one column more

-- the checks of one column more
pub checks_none : (h : List ℕ) → accepted ≡ column_checks h 0
unfolding column_checks range first_refusal
checks_none h = refl

pub checks_next : (h : List ℕ) (k : ℕ) → before (column_checks h k) (column_check h (k + 1)) ≡ column_checks h (k + 1)
unfolding column_checks range
checks_next h k =
    sym (ap first_refusal (ap (map (column_check h)) (range_append 1 k 1) ∙ map_push (column_check h) (range 1 k) (1 + k))
    ∙ first_snoc (map (column_check h) (range 1 k)) (column_check h (1 + k))
    ∙ ap (λ (m : ℕ). before (first_refusal (map (column_check h) (range 1 k))) (column_check h m)) (omega arith))

-- once a column is refused, so are all the more columns
checks_stay : (h : List ℕ) (n p k d : ℕ) → column_checks h k ≡ refused n p → column_checks h (k + d) ≡ refused n p
checks_stay h n p k zero e = rw (add-zero k) e
checks_stay h n p k (suc d) e =
    ap (column_checks h) (omega arith) ∙ sym (checks_next h (k + d)) ∙ ap (λ (o : Outcome). before o (column_check h (k + d + 1))) (checks_stay h n p k d e)

pub checks_stop : (h : List ℕ) (k m n p : ℕ) → column_checks h k ≡ accepted → column_check h (k + 1) ≡ refused n p → k < m → column_checks h m ≡ refused n p
checks_stop h k m n p a e l =
    let s : column_checks h (k + 1) ≡ refused n p = sym (checks_next h k) ∙ ap (λ (o : Outcome). before o (column_check h (k + 1))) a ∙ e in
    let q : k + 1 + (m - (k + 1)) ≡ m = omega arith in
    ap (column_checks h) (sym q) ∙ checks_stay h n p (k + 1) (m - (k + 1)) s

row_snoc : (xs : List Column) (c : Column) → row_bytes (xs ++ (c ∷ [])) ≡ row_bytes xs + column_bytes c
unfolding row_bytes
row_snoc [] c = omega arith
row_snoc (x ∷ xs) c = omega (arith, row_snoc xs c)

module _ (h : List ℕ) where
  -- column n at byte `at`
  abbrev pub column_of : ℕ → ℕ → Column
  column_of at n = column_at h n at

  pub columns_length : (at n k : ℕ) → length (columns_from h at n k) ≡ k
  unfolding columns_from
  columns_length at n zero = refl
  columns_length at n (suc k) = ap suc (columns_length (at + column_bytes (column_of at n)) (suc n) k)

  -- the column with index c of those from column n on
  pub column_from : (at n k c : ℕ) → c < k → (b : ℕ) × (get_or (columns_from h at n k) c no_column ≡ column_of b (n + c))
  unfolding columns_from
  column_from at n zero c p = absurd (not-suc-le-zero p)
  column_from at n (suc k) zero p = (at, rw (add-zero n))
  column_from at n (suc k) (suc c) p =
      let r = column_from (at + column_bytes (column_of at n)) (suc n) k c (le_of_suc-le-suc p) in
      (r.0, r.1 ∙ ap (column_of r.0) (suc-add n c ∙ sym (add-suc n c)))

  columns_snoc : (at n k : ℕ) → columns_from h at n (suc k) ≡ columns_from h at n k ++ (column_of (at + row_bytes (columns_from h at n k)) (n + k) ∷ [])
  unfolding columns_from row_bytes
  columns_snoc at n zero = rw (add-zero at, add-zero n)
  columns_snoc at n (suc k) =
      let w = column_bytes (column_of at n) in let xs = columns_from h (at + w) (suc n) k in
      let e : at + w + row_bytes xs ≡ at + (w + row_bytes xs) = omega arith in
      let m : suc n + k ≡ n + suc k = suc-add n k ∙ sym (add-suc n k) in
      ap (λ (l : List Column). column_of at n ∷ l) (columns_snoc (at + w) (suc n) k
      ∙ ap (λ (b : ℕ). xs ++ (column_of b (suc n + k) ∷ [])) e ∙ ap (λ (j : ℕ). xs ++ (column_of (at + (w + row_bytes xs)) j ∷ [])) m)

  -- the columns that are read so far
  abbrev pub columns_to : ℕ → List Column
  columns_to k = columns_from h 0 1 k

  -- the next one
  abbrev pub next : ℕ → Column
  next k = column_of (row_bytes (columns_to k)) (k + 1)

  to_snoc : (k : ℕ) → columns_to (k + 1) ≡ columns_to k ++ (next k ∷ [])
  to_snoc k =
      ap columns_to (add-one k) ∙ columns_snoc 0 1 k ∙ ap (λ (b : ℕ). columns_to k ++ (column_of b (1 + k) ∷ [])) (omega arith)
      ∙ ap (λ (j : ℕ). columns_to k ++ (column_of (row_bytes (columns_to k)) j ∷ [])) (omega arith)

  pub bytes_next : (k : ℕ) → row_bytes (columns_to k) + column_bytes (next k) ≡ row_bytes (columns_to (k + 1))
  bytes_next k = sym (ap row_bytes (to_snoc k) ∙ row_snoc (columns_to k) (next k))

  -- the array with the columns so far
  abbrev pub filled : ℕ → List Column
  filled k = columns_to k ++ replicate (64 - k) no_column

  pub filled_none : (c : Column) → c ≡ no_column → replicate 64 c ≡ filled 0
  unfolding columns_from
  filled_none c e = rw e

  pub bytes_none : ◌≡◌ {A = ℕ} 0 (row_bytes (columns_to 0))
  unfolding columns_from row_bytes
  bytes_none = refl

  pub filled_next : (k : ℕ) → k < 64 → set (filled k) k (next k) ≡ filled (k + 1)
  filled_next k l =
      let e : 64 - k ≡ suc (64 - (k + 1)) = omega arith in
      rw (e, to_snoc k)
      (set_at (columns_to k) no_column (replicate (64 - (k + 1)) no_column) (next k) k (columns_length 0 1 k)
      ∙ sym (append_assoc (columns_to k) (next k ∷ []) (replicate (64 - (k + 1)) no_column)))

  column_bound : (at n : ℕ) → column_bytes (column_of at n) ≤ 134217728
  column_bound at n = omega (arith, field_bytes_bound (column_of at n).form (column_of at n).count, count_bound (column_of at n).form (column_of at n).count (form_count (text_in h (value_at h (tform_of h n)))))

  from_bound : (at n k : ℕ) → row_bytes (columns_from h at n k) ≤ k * 134217728
  unfolding columns_from row_bytes
  from_bound at n zero = omega arith
  from_bound at n (suc k) = omega (arith, column_bound at n, from_bound (at + column_bytes (column_of at n)) (suc n) k)

  pub bytes_bound : (k : ℕ) → row_bytes (columns_to k) ≤ k * 134217728
  bytes_bound k = from_bound 0 1 k

  -- a stretch of the header fits 32 bits
  pub value_fits : (r : Option ℕ) → length h < 2 ^ 32 → (a n : ℕ) → value_at h r ≡ Some (String a n) → (a < 2 ^ 32) × (n < 2 ^ 32)
  value_fits (Some k) l a n e = let i = value_inside a n h k e in (omega (arith, i), omega (arith, i))
  value_fits None l a n e = cc
