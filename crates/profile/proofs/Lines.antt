-- Line i of a page is that of item i, in the page and in the buffer after the call: its fields, and what it says.
-- Assumes nothing.
use Rattle.std.proofs.Common.{ℕ, ◌≡◌, ◌+◌, ◌*◌, ◌<◌, ◌≤◌, true, List, length, take, drop, sym, ap, ◌∙◌, arith}
use mathlib.Core.Logic.{◌⊎◌}
use Rattle.std.specs.Prelude.{Some, Float}
use Rattle.std.specs.Float.{binary32}
use Rattle.std.specs.Float.Ieee.{of_bits}
use Rattle.std.proofs.lemmas.List.{drop-take, take-take, drop-drop}
use Rattle.ascii.proofs.Chain.{front}
use Rattle.ascii.proofs.Pieces.{piece_at}
use Rattle.layout.specs.declared.BinTable.{BinTable}
use Rattle.layout.specs.Layout.{layout_ok}
use Rattle.walk.specs.Plain.{column_of}
use Rattle.walk.proofs.Inside.{fits_layout}
use Rattle.weight.specs.declared.Edition.{Edition}
use Rattle.weight.specs.Weight.{stars}
use Rattle.weight.specs.Reading.{Says, Unwritable}
use Rattle.weight.proofs.Stars.{weight_or_stars}
use Rattle.profile.specs.Page.{profile_line, bits_at, weight_at, profile_page, edition_of, page_column, wrote}
use Rattle.profile.specs.Page.{page_reply, page_left}
use Rattle.profile.proofs.Fits.{each_line, each_fields, page_length}
use Rattle.profile.proofs.Widths.{Fields}
use Rattle.profile.proofs.Calls.{page_put, written_is}

pub page_line : (l : BinTable) (a : List ℕ) (c r : ℕ) (ed : Edition) (i : ℕ) → layout_ok l ≡ true
    → page_column l c ≡ true → r < l.naxis2 → i < (column_of l c).count
    → take 27 (drop (27 * i) (profile_page l a c r ed)) ≡ profile_line r i (weight_at l a c r ed i)
unfolding profile_page
page_line l a c r ed i ok t h q =
    let line = λ (j : ℕ). profile_line r j (weight_at l a c r ed j) in
    let at : 27 * i ≡ i * 27 = omega arith in
    let first : 0 + i ≡ i = omega arith in
    rw at (piece_at line 27 0 (column_of l c).count i (λ j p. each_line l ok c t a r h ed j (omega arith)) q
    ∙ ap line first)

-- the bytes from place p on within the first n
within : (s : List ℕ) (n p k : ℕ) → p + k ≤ n → take k (drop p s) ≡ take k (drop p (take n s))
within s n p k h =
    sym (drop-take p k s) ∙ ap (drop p) (sym (take-take (p + k) n s h)) ∙ drop-take p k (take n s)

pub line_left : (l : BinTable) (a : List ℕ) (c r number : ℕ) (ed : Edition) (buffer : List ℕ) (n i : ℕ)
    → page_reply l a c r number (length buffer) ≡ wrote n → edition_of number ≡ Some ed → i < (column_of l c).count
    → take 27 (drop (27 * i) (page_left l a c r number buffer)) ≡ profile_line r i (weight_at l a c r ed i)
line_left l a c r number ed buffer n i w e q =
    let x = written_is l a c r number (length buffer) n w in
    let t : List ℕ = profile_page l a c r ed in
    let fills : length t ≡ n = page_length l (fits_layout l a x.fitting) c x.column a r x.row ed ∙ sym x.size in
    let page : take n (page_left l a c r number buffer) ≡ t =
    front buffer t x.inside (omega (arith, fills), page_put l a c r number buffer n w ed e) in
    within (page_left l a c r number buffer) n (27 * i) 27 (omega (arith, x.size))
    ∙ ap (λ (s : List ℕ). take 27 (drop (27 * i) s)) page
    ∙ page_line l a c r ed i (fits_layout l a x.fitting) x.column x.row q

-- and its fields
pub fields_left : (l : BinTable) (a : List ℕ) (c r number : ℕ) (ed : Edition) (buffer : List ℕ) (n i : ℕ)
    → page_reply l a c r number (length buffer) ≡ wrote n → edition_of number ≡ Some ed → i < (column_of l c).count
    → Fields r i (weight_at l a c r ed i) (27 * i) (page_left l a c r number buffer)
fields_left l a c r number ed buffer n i w e q =
    let x = written_is l a c r number (length buffer) n w in
    let s : List ℕ = page_left l a c r number buffer in
    let t : List ℕ = profile_line r i (weight_at l a c r ed i) in
    let line : take 27 (drop (27 * i) s) ≡ t = line_left l a c r number ed buffer n i w e q in
    let part : (p k : ℕ) → p + k ≤ 27 → take k (drop (27 * i + p) s) ≡ take k (drop p t) =
    λ p k h. ap (take k) (sym (drop-drop p (27 * i) s)) ∙ within (drop (27 * i) s) 27 p k h
    ∙ ap (λ (u : List ℕ). take k (drop p u)) line in
    let f = each_fields l (fits_layout l a x.fitting) c x.column a r x.row ed i q in
    record {
      row_field = within (drop (27 * i) s) 27 0 8 (omega arith) ∙ ap (take 8) line ∙ f.row_field;
      idx_field = part 9 6 (omega arith) ∙ f.idx_field;
      weight_field = part 16 10 (omega arith) ∙ f.weight_field;
    }

-- a line whose weight is ten stars, or says the exact value of a float
pub record Shows (row idx : ℕ) (ed : Edition) (v : Float) (line : List ℕ) : Type 0 where
  pub weight : List ℕ
  pub is : line ≡ profile_line row idx weight
  pub says : ((weight ≡ stars) × Unwritable ed v) ⊎ Says ed v weight

-- of the float of item i
pub line_says : (l : BinTable) (a : List ℕ) (c r number : ℕ) (ed : Edition) (buffer : List ℕ) (n i : ℕ)
    → page_reply l a c r number (length buffer) ≡ wrote n → edition_of number ≡ Some ed → i < (column_of l c).count
    → Shows r i ed (of_bits binary32 (bits_at l a c r i)) (take 27 (drop (27 * i) (page_left l a c r number buffer)))
line_says l a c r number ed buffer n i w e q =
    record {
      weight = weight_at l a c r ed i;
      is = line_left l a c r number ed buffer n i w e q;
      says = weight_or_stars ed (bits_at l a c r i);
    }
