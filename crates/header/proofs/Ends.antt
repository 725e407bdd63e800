-- The records of a header, and a search for END that passes them one by one.
-- Assumes nothing.
use mathlib.Core.Path.{◌≡◌, refl, sym, ap, ◌∙◌}
use mathlib.Core.Bool.{true, false}
use mathlib.Core.List.{List, [], ◌++◌, append-nil}
use Rattle.std.specs.Prelude.{Option, Some, None}
use Rattle.std.specs.Option.{MatchOption}
use Prim.Native.Nat.{ℕ, zero, suc, ◌+◌, ◌*◌, ◌/◌, ◌<◌, ◌≤◌, min}
use native.Mathlib.Omega.{arith}
use native.Mathlib.Nat.{zero-add}
use native.Mathlib.Numerals.{add-one}
use lib.ListN.{length, take, drop, get_or, length-map, drop_of_length-le}
use lib.Seq.{drop-cons, take-suc, append_snoc, length-take-le}
use Rattle.card.specs.Record.{card_at, is_end}
use Rattle.header.specs.Records.{records, has_end, before_end, header_len}
use Rattle.keyword.proofs.Position.{length_range, range_at}

module _ (h : List ℕ) where
  pub record_count : length (records h) ≡ length h / 80
  unfolding records
  record_count = rw (length-map, length_range)

  pub record_at : (k : ℕ) → k < length h / 80 → get_or (records h) k [] ≡ card_at h k
  unfolding records
  record_at k p = range_at (card_at h) 0 (length h / 80) k [] p ∙ ap (card_at h) (zero-add k)

-- none of the first k records is END
pub record Open (rs : List (List ℕ)) (k : ℕ) : Type 0 where
  pub end : has_end rs ≡ has_end (drop k rs)
  pub passed : before_end rs ≡ take k rs ++ before_end (drop k rs)

pub open_none : (rs : List (List ℕ)) → Open rs 0
open_none rs = record { end = refl; passed = refl }

module _ (rs : List (List ℕ)) (k : ℕ) (o : Open rs k) where
  module _ (h : k < length rs) where
    pub open_next : is_end (get_or rs k []) ≡ false → Open rs (k + 1)
    unfolding has_end before_end
    open_next e = record {
      end = o.end ∙ rw (add-one k, drop-cons rs k [] h, e);
      passed =
          o.passed
          ∙ rw (add-one k, drop-cons rs k [] h, e, take-suc rs k [] h)
          (sym (append_snoc (take k rs) (get_or rs k []) (before_end (drop (suc k) rs))));
    }

    pub open_ends : is_end (get_or rs k []) ≡ true → has_end rs ≡ true
    unfolding has_end
    open_ends e = o.end ∙ rw (drop-cons rs k [] h, e)

    pub open_before : is_end (get_or rs k []) ≡ true → before_end rs ≡ take k rs
    unfolding before_end
    open_before e = o.passed ∙ rw (drop-cons rs k [] h, e) (append-nil (take k rs))

  pub open_over : length rs ≤ k → has_end rs ≡ false
  unfolding has_end
  open_over h = o.end ∙ rw (drop_of_length-le rs h)

-- where the header ends in a file
module _ (f : List ℕ) where
  pub len_at : (k : ℕ) → Open (records f) k → k < length f / 80 → is_end (card_at f k) ≡ true → header_len f ≡ min (length f) ((k / 36 + 1) * 2880)
  unfolding header_len
  len_at k o p t =
      let i : k < length (records f) = omega (arith, record_count f) in
      let e : is_end (get_or (records f) k []) ≡ true = ap is_end (record_at f k p) ∙ t in
      let n : length (take k (records f)) ≡ k = length-take-le k (records f) (omega arith) in
      rw (open_ends (records f) k o i e, open_before (records f) k o i e, n)

  pub len_over : has_end (records f) ≡ false → header_len f ≡ length f
  unfolding header_len
  len_over e = rw e

  -- none of the first k records is END
  open_to : (k : ℕ) → k ≤ length f / 80 → ((i : ℕ) → 0 ≤ i → i < k → is_end (card_at f i) ≡ false) → Open (records f) k
  open_to zero h none = open_none (records f)
  open_to (suc k) h none =
      let p : k < length f / 80 = omega (arith, h) in
      rw (← add-one k)
      (open_next (records f) k (open_to k (omega (arith, h)) (λ i a b. none i a (omega (arith, b)))) (omega (arith, record_count f, p))
      (ap is_end (record_at f k p) ∙ none k (omega arith) (omega arith)))

  -- the length of the header is told by the first record that is END, if there is one
  pub len_by_first : (r : Option ℕ) (n : ℕ) (Ends : ℕ → Type 0)
      → ((k : ℕ) → Ends k → n ≡ min (length f) ((k / 36 + 1) * 2880))
      → MatchOption r ((i : ℕ) → 0 ≤ i → i < length f / 80 → is_end (card_at f i) ≡ false)
      (λ k. (0 ≤ k) × (k < length f / 80) × (is_end (card_at f k) ≡ true) × ((i : ℕ) → 0 ≤ i → i < k → is_end (card_at f i) ≡ false))
      → MatchOption r (n ≡ length f) Ends
      → n ≡ header_len f
  len_by_first None n Ends there none e =
      e ∙ sym (len_over (open_over (records f) _ (open_to (length f / 80) (omega arith) none) (omega (arith, record_count f))))
  len_by_first (Some k) n Ends there (_, h, t, none) e = there k e ∙ sym (len_at k (open_to k (omega (arith, h)) none) h t)
