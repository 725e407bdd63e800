-- Where the bytes of a turned data area are, and that turning it back gives it again.
-- Assumes nothing.
use Rattle.std.proofs.Common.{ℕ, zero, suc, ◌≡◌, ◌+◌, ◌-◌, ◌*◌, ◌/◌, ◌%◌, ◌<◌, ◌≤◌}
use Rattle.std.proofs.Common.{List, length, get_or, drop, length-append, length-drop}
use Rattle.std.proofs.Common.{subst, sym, ap, ◌∙◌, ⊎_elim, arith}
use Rattle.std.proofs.lemmas.List.{ext_get_or, drop_at, get_or-drop, get_or_append_left}
use Rattle.std.proofs.lemmas.List.FromFn.{length-map-range_with_len, get_or-map-range_with_len}
use Rattle.std.proofs.lemmas.Bool.{cases_lt}
use Rattle.std.proofs.lemmas.Nat.{mul-add-lt, div_below, mod_below, div-add-mod'}
use Rattle.std.proofs.Math.Nat.{mul_comm}
use Rattle.ascii.proofs.Pieces.{pieces, pieces_length, byte_at}
use Rattle.turn.specs.Turn.{at_place, turned, turned_back}

-- a table with a byte has a row
some_row : (rows width i : ℕ) → i < rows * width → 0 < rows
some_row zero width i h = absurd (omega arith)
some_row (suc rows) width i h = omega arith

module _ (rows width : ℕ) (a : List ℕ) where
  -- the bytes at all places, place by place
  abbrev at_places : List ℕ
  at_places = pieces (at_place rows width a) 0 width

  length_place : (p : ℕ) → length (at_place rows width a p) ≡ rows
  length_place p = length-map-range_with_len (λ r. get_or a (r * width + p) 0) 0 rows

  length_main : length at_places ≡ rows * width
  length_main =
      pieces_length (at_place rows width a) rows 0 width (λ p h. length_place p) ∙ mul_comm width rows

  get_place : (p r : ℕ) → p < width → r < rows → get_or at_places (p * rows + r) 0 ≡ get_or a (r * width + p) 0
  get_place p r hp hr =
      let z : 0 + p ≡ p = omega arith in
      byte_at (at_place rows width a) rows 0 width p r 0 (λ p h. length_place p) hp hr
      ∙ rw z (get_or-map-range_with_len (λ r. get_or a (r * width + p) 0) 0 rows r r 0 hr (omega arith))

  module _ (fits : rows * width ≤ length a) where
    pub turned_length : length (turned rows width a) ≡ length a
    unfolding turned
    turned_length =
        length-append at_places (drop (rows * width) a)
        ∙ omega (arith, length_main, length-drop (rows * width) a)

    -- byte p of row r goes to p * rows + r
    pub goes_to : (r p : ℕ) → r < rows → p < width
        → get_or (turned rows width a) (p * rows + r) 0 ≡ get_or a (r * width + p) 0
    unfolding turned
    goes_to r p hr hp =
        let l : p * rows + r < length at_places =
        omega (arith, length_main, mul-add-lt p rows r width hp hr) in
        get_or_append_left at_places (drop (rows * width) a) 0 (p * rows + r) l ∙ get_place p r hp hr

    -- and what follows the rows stays
    pub tail_stays : drop (rows * width) (turned rows width a) ≡ drop (rows * width) a
    unfolding turned
    tail_stays = drop_at at_places (drop (rows * width) a) (rows * width) length_main

    -- no other list is so
    pub turned_is : (b : List ℕ) → length b ≡ length a
        → ((r p : ℕ) → r < rows → p < width → get_or b (p * rows + r) 0 ≡ get_or a (r * width + p) 0)
        → drop (rows * width) b ≡ drop (rows * width) a
        → b ≡ turned rows width a
    turned_is b len each tail = ext_get_or 0 b (turned rows width a) (len ∙ sym turned_length) same
      where
        same : (i : ℕ) → i < length b → get_or b i 0 ≡ get_or (turned rows width a) i 0
        same i h =
            ⊎_elim
            (λ (l : i < rows * width).
            let n = some_row rows width i l in
            let q : i / rows < width = div_below i rows width n (omega arith) in
            let r : i % rows < rows = mod_below i rows n in
            let e : i / rows * rows + i % rows ≡ i = div-add-mod' i rows in
            subst (λ j. get_or b j 0 ≡ get_or (turned rows width a) j 0) e
            (each (i % rows) (i / rows) r q ∙ sym (goes_to (i % rows) (i / rows) r q)))
            (λ (g : rows * width ≤ i).
            let e : i ≡ rows * width + (i - rows * width) = omega arith in
            rw e
            (sym (get_or-drop (rows * width) b (i - rows * width) 0)
            ∙ ap (λ xs. get_or xs (i - rows * width) 0) (tail ∙ sym tail_stays)
            ∙ get_or-drop (rows * width) (turned rows width a) (i - rows * width) 0))
            (cases_lt i (rows * width))

-- turning, and turning back
pub turned_round : (rows width : ℕ) (a : List ℕ) → rows * width ≤ length a
    → turned_back rows width (turned rows width a) ≡ a
turned_round rows width a fits =
    let len = turned_length rows width a fits in
    sym
    (turned_is width rows (turned rows width a) (omega (arith, len)) a (sym len)
    (λ r p hr hp. sym (goes_to rows width a fits p r hp hr))
    (rw (mul_comm width rows) (sym (tail_stays rows width a fits))))

pub turned_back_round : (rows width : ℕ) (a : List ℕ) → rows * width ≤ length a
    → turned rows width (turned_back rows width a) ≡ a
turned_back_round rows width a fits = turned_round width rows a (rw (mul_comm width rows) fits)
