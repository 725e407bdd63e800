-- A line has 27 bytes where its fields fit their places, and each field stands in its place.
-- Assumes nothing.
use Rattle.std.proofs.Common.{ℕ, ◌≡◌, ◌+◌, ◌<◌, ◌≤◌, List, [], ◌∷◌, ◌++◌, length, take, drop}
use Rattle.std.proofs.Common.{sym, ap, ◌∙◌, arith, length-append}
use Rattle.std.proofs.lemmas.List.{drop-drop, take_at, drop_at}
use Rattle.ascii.specs.Number.{decimal_text, right_aligned}
use Rattle.ascii.proofs.Chain.{right_length}
use Rattle.profile.specs.Page.{profile_line}
use Rattle.ascii.proofs.Lengths.{few_digits}

-- a text that is no longer than its field
pub fills : (width : ℕ) (t : List ℕ) → length t ≤ width → length (right_aligned width t) ≡ width
fills width t h = right_length width t ∙ omega arith

pub row_short : (row : ℕ) → row < 100000000 → length (decimal_text row) ≤ 8
row_short row h = few_digits 20 8 row h (omega arith)

pub idx_short : (idx : ℕ) → idx < 1000000 → length (decimal_text idx) ≤ 6
idx_short idx h = few_digits 20 6 idx h (omega arith)

pub row_fills : (row : ℕ) → row < 100000000 → length (right_aligned 8 (decimal_text row)) ≡ 8
row_fills row h = fills 8 (decimal_text row) (row_short row h)

pub idx_fills : (idx : ℕ) → idx < 1000000 → length (right_aligned 6 (decimal_text idx)) ≡ 6
idx_fills idx h = fills 6 (decimal_text idx) (idx_short idx h)

pub line_length : (row idx : ℕ) (weight : List ℕ) → row < 100000000 → idx < 1000000 → length weight ≤ 10
    → length (profile_line row idx weight) ≡ 27
unfolding profile_line
line_length row idx weight hr hi hw =
    let a : List ℕ = right_aligned 8 (decimal_text row) in
    let b : List ℕ = right_aligned 6 (decimal_text idx) in
    let c : List ℕ = right_aligned 10 weight in
    omega (arith, length-append {A = ℕ}, row_fills row hr, idx_fills idx hi, fills 10 weight hw)

-- ---- the fields of a line, and of a line that begins at a place of a text

pub record Fields (row idx : ℕ) (weight : List ℕ) (at : ℕ) (s : List ℕ) : Type 0 where
  pub row_field : take 8 (drop at s) ≡ right_aligned 8 (decimal_text row)
  pub idx_field : take 6 (drop (at + 9) s) ≡ right_aligned 6 (decimal_text idx)
  pub weight_field : take 10 (drop (at + 16) s) ≡ right_aligned 10 weight

-- what is behind a text and a byte
behind : (t : List ℕ) (x : ℕ) (rest : List ℕ) (k : ℕ) → length t ≡ k → drop (k + 1) (t ++ x ∷ rest) ≡ rest
behind t x rest k e = sym (drop-drop 1 k (t ++ x ∷ rest)) ∙ ap (drop 1) (drop_at t (x ∷ rest) k e)

pub line_fields : (row idx : ℕ) (weight : List ℕ) → row < 100000000 → idx < 1000000 → length weight ≤ 10
    → Fields row idx weight 0 (profile_line row idx weight)
unfolding profile_line
line_fields row idx weight hr hi hw =
    let a : List ℕ = right_aligned 8 (decimal_text row) in
    let b : List ℕ = right_aligned 6 (decimal_text idx) in
    let c : List ℕ = right_aligned 10 weight in
    let from_weight : List ℕ = c ++ (10 ∷ []) in
    let from_idx : List ℕ = b ++ (32 ∷ from_weight) in
    let idx_at : drop 9 (a ++ (32 ∷ from_idx)) ≡ from_idx = behind a 32 from_idx 8 (row_fills row hr) in
    let weight_at : drop 16 (a ++ (32 ∷ from_idx)) ≡ from_weight =
    sym (drop-drop 7 9 (a ++ (32 ∷ from_idx))) ∙ ap (drop 7) idx_at
    ∙ behind b 32 from_weight 6 (idx_fills idx hi) in
    record {
      row_field = take_at a (32 ∷ from_idx) 8 (row_fills row hr);
      idx_field = ap (take 6) idx_at ∙ take_at b (32 ∷ from_weight) 6 (idx_fills idx hi);
      weight_field = ap (take 10) weight_at ∙ take_at c (10 ∷ []) 10 (fills 10 weight hw);
    }
