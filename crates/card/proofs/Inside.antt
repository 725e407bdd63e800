-- A string lies within its record, so within the header, for callers that cut it out.
-- Assumes nothing.
use Rattle.std.specs.Prelude.{Option, Some, None}
use mathlib.Core.Path.{◌≡◌, sym, ap, ◌∙◌}
use mathlib.Core.Bool.{true, ◌&&◌}
use mathlib.Core.List.{List, [], ◌∷◌}
use Prim.Native.Nat.{ℕ, ◌+◌, ◌-◌, ◌*◌, ◌/◌, ◌≤◌}
use native.Mathlib.Omega.{arith}
use lib.ListN.{length, take, drop, length-take, length-drop}
use lib.Seq.{take-take, drop-drop}
use lib.Dec.{ltb, eqb}
use borrow.Author.Tests.{lt-ltb}
use Rattle.std.proofs.lemmas.List.{drop-take}
use lib.IntN.{ℤ}
use Rattle.card.specs.declared.Value.TheVariants.{String}
use Rattle.ascii.specs.Text.{front, space, trim}
use Rattle.card.specs.Ends.{follows, closing}
use Rattle.card.specs.Record.{card_at, has_value}
use Rattle.card.specs.Value.{integer_value, as_value, string_value, value_from, field_value, value_of}
use Rattle.ascii.proofs.Cases.{either}
use Rattle.ascii.proofs.Front.{front_le}
use Rattle.ascii.proofs.Spaces.{trimmed_le}
use Rattle.card.proofs.Records.{value_below}

module _ (a n : ℕ) where
  none_other : None ≡ Some (String a n) → ⊥
  none_other e = cc

  -- an integer is no string
  value_other : (o : Option ℤ) → as_value o ≡ Some (String a n) → ⊥
  value_other None e = none_other e
  value_other (Some z) e = cc

  -- from a place on, and not beyond the end of the bytes there
  abbrev Within : ℕ → List ℕ → Type 0
  Within start s = (start ≤ a) × (a + n ≤ start + length s)

  string_inside : (start : ℕ) (s : List ℕ) → string_value start s ≡ Some (String a n) → Within start s
  unfolding string_value
  string_inside start s e =
      either (ltb (closing s) (length s) && follows (drop (closing s + 1) s))
      (λ t.
      let w : Some (String start (length (trim (take (closing s) s)))) ≡ Some (String a n) = rw t at e in
      let p : start ≡ a = cc in
      let q : length (trim (take (closing s) s)) ≡ n = cc in
      (omega arith, omega (arith, trimmed_le (take (closing s) s), length-take (closing s) s)))
      (λ t. absurd (none_other (rw t at e)))

  from_inside : (start : ℕ) (s : List ℕ) → value_from start s ≡ Some (String a n) → Within start s
  unfolding value_from
  from_inside start [] e = absurd (none_other e)
  from_inside start (b ∷ bs) e =
      either (eqb b 39) (λ t. let h = string_inside (start + 1) bs (rw t at e) in (omega (arith, h.0), omega (arith, h.1)))
      (λ t. absurd (value_other (integer_value 18 (b ∷ bs)) (rw t at e)))

  field_inside : (start : ℕ) (f : List ℕ) → field_value start f ≡ Some (String a n) → Within start f
  unfolding field_value
  field_inside start f e =
      let h = from_inside (start + front space f) (drop (front space f) f) e in
      (omega (arith, h.0), omega (arith, h.1, front_le space f, length-drop (front space f) f))

  module _ (h : List ℕ) (k : ℕ) where
    card_length : length (card_at h k) ≤ 80
    unfolding card_at
    card_length = either (ltb k (length h / 80)) (λ t. rw t (simp length-take (omega arith))) (λ t. rw t (omega arith))

    module _ (e : value_of h k ≡ Some (String a n)) where
      -- a record with a string holds a value, so it is there
      holds : has_value (card_at h k) ≡ true
      unfolding value_of
      holds = either (has_value (card_at h k)) (λ t. t) (λ t. absurd (none_other (rw t at e)))

      -- the string lies within the record
      in_record : (k * 80 ≤ a) × (a + n ≤ k * 80 + 80)
      unfolding value_of
      in_record =
          let q = field_inside (k * 80 + 10) (drop 10 (card_at h k)) (rw holds at e) in
          (omega (arith, q.0), omega (arith, q.0, q.1, card_length, length-drop 10 (card_at h k)))

      -- what `parse_value` gives as a string
      pub value_inside : a + n ≤ length h
      value_inside = omega (arith, in_record.1, value_below h k holds)

      -- so its bytes are the record's own
      pub string_bytes : take n (drop a h) ≡ take n (drop (a - k * 80) (card_at h k))
      unfolding card_at
      string_bytes =
          let d = a - k * 80 in
          let below = lt-ltb k (length h / 80) (value_below h k holds) in
          let from : k * 80 + d ≡ a = omega (arith, in_record.0) in
          let whole : d + (80 - d) ≡ 80 = omega (arith, in_record.0, in_record.1) in
          let cut : drop d (take 80 (drop (k * 80) h)) ≡ take (80 - d) (drop d (drop (k * 80) h)) =
          ap (λ (m : ℕ). drop d (take m (drop (k * 80) h))) (sym whole) ∙ drop-take d (80 - d) (drop (k * 80) h) in
          rw below
          (sym (ap (take n) cut
          ∙ take-take n (80 - d) (drop d (drop (k * 80) h)) (omega (arith, in_record.0, in_record.1))
          ∙ ap (take n) (drop-drop d (k * 80) h ∙ ap (λ (m : ℕ). drop m h) from)))
