-- What the contracts of `turn` and `turn_back` come to: which refusals there are, that a refusal leaves the buffer,
-- where each byte goes, and that each call undoes the other.
-- Assumes nothing.
use Rattle.std.proofs.Common.{ℕ, ◌≡◌, ◌+◌, ◌*◌, ◌<◌, ◌≤◌, Bool, true, false, ◌&&◌, cond, eqb, leb}
use Rattle.std.proofs.Common.{List, length, get_or, drop, refl, sym, ap, ◌∙◌, arith}
use Rattle.std.proofs.lemmas.Bool.{and_parts, and_right, eqb-true, leb-true, eq-eqb, le-leb, ne_eqb, lt-leb}
use Rattle.std.proofs.Math.Nat.{mul_comm}
use Rattle.layout.specs.declared.BinTable.{BinTable}
use Rattle.layout.specs.Layout.{main_size, data_size, layout_ok}
use Rattle.refusal.specs.Refusal.{accepted, refused}
use Rattle.turn.specs.Turn.{turned, turned_back, turn_outcome, left_by, turn_left, turn_back_left}
use Rattle.turn.proofs.Turned.{turned_length, goes_to, tail_stays, turned_round, turned_back_round}

both_hold : (t u : Bool) → cond t (cond u accepted (refused 22 0)) (refused 10 0) ≡ accepted → (t ≡ true) × (u ≡ true)
both_hold true true e = (refl, refl)
both_hold true false e = cc
both_hold false u e = cc

module _ (l : BinTable) (from to : List ℕ) where
  -- a bad layout is refused, whatever the buffers are; then buffers of two lengths and those shorter than the table;
  -- nothing else is
  pub record Refusals : Type 0 where
    pub bad_layout : layout_ok l ≡ false → turn_outcome l from to ≡ refused 10 0
    pub two_lengths : layout_ok l ≡ true → (length from ≡ length to → ⊥) → turn_outcome l from to ≡ refused 22 0
    pub too_short : layout_ok l ≡ true → length from < data_size l → turn_outcome l from to ≡ refused 22 0
    pub none : layout_ok l ≡ true → length from ≡ length to → data_size l ≤ length from
        → turn_outcome l from to ≡ accepted

  pub turn_refusals : Refusals
  unfolding turn_outcome
  turn_refusals =
      let short = and_right (eqb (length from) (length to)) false refl in
      record {
        bad_layout = λ e. rw e refl;
        two_lengths = λ e n. rw (e, ne_eqb (length from) (length to) n) refl;
        too_short = λ e s. rw (e, lt-leb (data_size l) (length from) s, short) refl;
        none = λ e same fits.
            rw (e, eq-eqb (length from) (length to) same, le-leb (data_size l) (length from) fits) refl;
      }

  pub turn_keeps : (n p : ℕ) → turn_outcome l from to ≡ refused n p → turn_left l from to ≡ to
  turn_keeps n p e = ap (λ o. left_by o (turned l.naxis2 l.naxis1 from) to) e

  pub turn_back_keeps : (n p : ℕ) → turn_outcome l from to ≡ refused n p → turn_back_left l from to ≡ to
  turn_back_keeps n p e = ap (λ o. left_by o (turned_back l.naxis2 l.naxis1 from) to) e

  module _ (ok : turn_outcome l from to ≡ accepted) where
    pub accepted_is : (layout_ok l ≡ true) × (length from ≡ length to) × (data_size l ≤ length from)
    unfolding turn_outcome
    accepted_is =
        let same = eqb (length from) (length to) in
        let fits = leb (data_size l) (length from) in
        let b = both_hold (layout_ok l) (same && fits) ok in
        let s = and_parts same fits b.1 in
        (b.0, eqb-true (length from) (length to) s.0, leb-true (data_size l) (length from) s.1)

    table_fits : l.naxis2 * l.naxis1 ≤ length from
    table_fits = omega (arith, accepted_is.2)

    turned_fits : l.naxis1 * l.naxis2 ≤ length from
    turned_fits = omega (arith, accepted_is.2)

    turn_writes : turn_left l from to ≡ turned l.naxis2 l.naxis1 from
    turn_writes = ap (λ o. left_by o (turned l.naxis2 l.naxis1 from) to) ok

    turn_back_writes : turn_back_left l from to ≡ turned_back l.naxis2 l.naxis1 from
    turn_back_writes = ap (λ o. left_by o (turned_back l.naxis2 l.naxis1 from) to) ok

    pub turn_length : length (turn_left l from to) ≡ length from
    turn_length = ap length turn_writes ∙ turned_length l.naxis2 l.naxis1 from table_fits

    pub turn_back_length : length (turn_back_left l from to) ≡ length from
    turn_back_length = ap length turn_back_writes ∙ turned_length l.naxis1 l.naxis2 from turned_fits

    -- byte p of row r goes to p * NAXIS2 + r, and what follows the rows stays
    pub turn_place : (r p : ℕ) → r < l.naxis2 → p < l.naxis1
        → get_or (turn_left l from to) (p * l.naxis2 + r) 0 ≡ get_or from (r * l.naxis1 + p) 0
    turn_place r p hr hp =
        ap (λ xs. get_or xs (p * l.naxis2 + r) 0) turn_writes ∙ goes_to l.naxis2 l.naxis1 from table_fits r p hr hp

    pub turn_tail : drop (main_size l) (turn_left l from to) ≡ drop (main_size l) from
    turn_tail =
        ap (drop (main_size l)) turn_writes
        ∙ rw (mul_comm l.naxis1 l.naxis2) (tail_stays l.naxis2 l.naxis1 from table_fits)

    -- and comes back
    pub turn_back_place : (r p : ℕ) → r < l.naxis2 → p < l.naxis1
        → get_or (turn_back_left l from to) (r * l.naxis1 + p) 0 ≡ get_or from (p * l.naxis2 + r) 0
    turn_back_place r p hr hp =
        ap (λ xs. get_or xs (r * l.naxis1 + p) 0) turn_back_writes
        ∙ goes_to l.naxis1 l.naxis2 from turned_fits p r hp hr

    pub turn_back_tail : drop (main_size l) (turn_back_left l from to) ≡ drop (main_size l) from
    turn_back_tail = ap (drop (main_size l)) turn_back_writes ∙ tail_stays l.naxis1 l.naxis2 from turned_fits

-- each call accepts what the other wrote, and writes what that one read
module _ (l : BinTable) (from to other : List ℕ) (ok : turn_outcome l from to ≡ accepted)
    (same : length other ≡ length from) where
  accepts : (written : List ℕ) → length written ≡ length from → turn_outcome l written other ≡ accepted
  accepts written len =
      let a = accepted_is l from to ok in
      (turn_refusals l written other).none a.0 (len ∙ sym same) (omega (arith, len, a.2))

  pub turn_round : (turn_outcome l (turn_left l from to) other ≡ accepted)
      × (turn_back_left l (turn_left l from to) other ≡ from)
  turn_round =
      let written = turn_left l from to in
      let again = accepts written (turn_length l from to ok) in (
        again,
        turn_back_writes l written other again ∙ ap (turned_back l.naxis2 l.naxis1) (turn_writes l from to ok)
            ∙ turned_round l.naxis2 l.naxis1 from (table_fits l from to ok),
      )

  pub turn_back_round : (turn_outcome l (turn_back_left l from to) other ≡ accepted)
      × (turn_left l (turn_back_left l from to) other ≡ from)
  turn_back_round =
      let written = turn_back_left l from to in
      let again = accepts written (turn_back_length l from to ok) in (
        again,
        turn_writes l written other again ∙ ap (turned l.naxis2 l.naxis1) (turn_back_writes l from to ok)
            ∙ turned_back_round l.naxis2 l.naxis1 from (table_fits l from to ok),
      )
