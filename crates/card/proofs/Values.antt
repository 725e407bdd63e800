-- The cases of a value, one law for each way that the definitions go.
-- Assumes nothing.
use Rattle.std.specs.Prelude.{Option, Some, None}
use Rattle.std.proofs.lemmas.Option.{cond_some}
use mathlib.Core.Path.{◌≡◌, sym, ap, ◌∙◌}
use mathlib.Core.List.{List}
use mathlib.Core.Bool.{Bool, true, false, cond, and-false}
use Prim.Native.Nat.{ℕ, ◌+◌, ◌-◌, ◌*◌, ◌/◌, ◌≤◌, ◌<◌}
use native.Mathlib.Omega.{arith}
use lib.ListN.{length, take, drop, length-take, length-drop}
use lib.Dec.{eqb, ltb, leb}
use borrow.Author.Tests.{lt-ltb, le-leb, lt-leb, eqb-true, eqb-false}
use Rattle.ascii.specs.Number.{number}
use Rattle.ascii.proofs.Cases.{either}
use Rattle.ascii.proofs.Parts.{part_from}
use Rattle.ascii.proofs.Reading.{digits_number}
use Rattle.card.specs.declared.Value.TheVariants.{String}
use Rattle.ascii.specs.Text.{front, digit, decimal, trim}
use Rattle.card.specs.Ends.{follows, closing}
use Rattle.card.proofs.Closing.{closing_place}
use Rattle.card.specs.Value.{signed, digits_value, string_value, field_value, value_of, field_wide, wide_of}
use Rattle.card.specs.Record.{card_at, has_value}
use Rattle.card.proofs.Records.{value_below}

-- what is read of n digits, where `most` of them are allowed, 19 at most
module _ (most : ℕ) (fit : most ≤ 19) (s : List ℕ) (n : ℕ) (e : n ≡ front digit s) (few : n ≤ most) where
  digits_read : (n ≡ 0 → ⊥) → number (take n s) ≡ Some (decimal 0 (take n s))
  digits_read some = digits_number s n some (omega arith) (omega arith)

  nothing : n ≡ 0 → number (take n s) ≡ None
  unfolding number
  nothing z = rw z

  -- a number that is read is that of the digits, of which there is one
  pub record Read (v : ℕ) : Type 0 where
    pub some : 0 < n
    pub is : v ≡ decimal 0 (take (front digit s) s)

  pub read : (v : ℕ) → Some v ≡ number (take n s) → Read v
  read v r =
      let some : n ≡ 0 → ⊥ = λ z. let y : Some v ≡ None = r ∙ nothing z in cc in
      let y : Some v ≡ Some (decimal 0 (take n s)) = r ∙ digits_read some in
      let is : v ≡ decimal 0 (take n s) = cc in
      record { some = omega (arith, some); is = is ∙ ap (λ (k : ℕ). decimal 0 (take k s)) e }

  module _ (minus : Bool) where
    pub unread : None ≡ number (take n s) → digits_value most minus s ≡ None
    unfolding digits_value
    unread r =
        either (eqb n 0)
        (λ t. let z : front digit s ≡ 0 = omega (arith, eqb-true n 0 t, e) in rw z)
        (λ t. let y : None ≡ Some (decimal 0 (take n s)) = r ∙ digits_read (λ z. eqb-false n 0 t z) in cc)

    pub digits_say : follows (drop n s) ≡ true → (v : ℕ) → Read v → Some (signed minus v) ≡ digits_value most minus s
    unfolding digits_value
    digits_say f v r =
        rw (r.is, ← e, f, le-leb n most few, lt-ltb 0 n r.some)

pub digits_over : (most : ℕ) (minus : Bool) (s : List ℕ) → most < front digit s → digits_value most minus s ≡ None
unfolding digits_value
digits_over most minus s h = rw (lt-leb (front digit s) most h, and-false (ltb 0 (front digit s)))

pub digits_before : (most : ℕ) (minus : Bool) (s : List ℕ) → follows (drop (front digit s) s) ≡ false → digits_value most minus s ≡ None
unfolding digits_value
digits_before most minus s f = rw (f, and-false (leb (front digit s) most), and-false (ltb 0 (front digit s)))

module _ (s : List ℕ) (start : ℕ) where
  pub string_open : None ≡ closing_place s → string_value start s ≡ None
  unfolding string_value
  string_open e =
      either (ltb (closing s) (length s))
      (λ t. let y : None ≡ Some (closing s) = rw t at e in cc)
      (λ t. rw t)

  pub string_before : follows (drop (closing s + 1) s) ≡ false → string_value start s ≡ None
  unfolding string_value
  string_before f = rw (f, and-false (ltb (closing s) (length s)))

  module _ (n : ℕ) (e : Some n ≡ closing_place s) where
    closes : (ltb (closing s) (length s) ≡ true) × (closing s ≡ n)
    closes = cond_some (ltb (closing s) (length s)) (closing s) n (sym e)

    pub string_unfollowed : follows (take (length s - (n + 1)) (drop (n + 1) s)) ≡ false → string_value start s ≡ None
    string_unfollowed f = string_before (ap (λ (k : ℕ). follows (drop (k + 1) s)) closes.1 ∙ ap follows (sym (part_from s (n + 1))) ∙ f)

    pub string_says : follows (take (length s - (n + 1)) (drop (n + 1) s)) ≡ true
        → string_value start s ≡ Some (String start (length (trim (take n s))))
    unfolding string_value
    string_says f = rw (closes.0, closes.1, ap follows (sym (part_from s (n + 1))) ∙ f)

module _ (h : List ℕ) (k : ℕ) where
  abbrev pub field_or_none : Option (List ℕ)
  field_or_none = cond (has_value (card_at h k)) (Some (drop 10 (card_at h k))) None

  -- without a value field there is no value
  pub value_unreadable : None ≡ field_or_none → value_of h k ≡ None
  unfolding value_of
  value_unreadable e =
      either (has_value (card_at h k)) (λ t. let y : None ≡ Some (drop 10 (card_at h k)) = rw t at e in cc) (λ t. rw t)

  pub wide_unreadable : None ≡ field_or_none → wide_of h k ≡ None
  unfolding wide_of
  wide_unreadable e =
      either (has_value (card_at h k)) (λ t. let y : None ≡ Some (drop 10 (card_at h k)) = rw t at e in cc) (λ t. rw t)

  pub wide_is : (f : List ℕ) → Some f ≡ field_or_none → wide_of h k ≡ field_wide f
  unfolding wide_of
  wide_is f e = let t = cond_some (has_value (card_at h k)) (drop 10 (card_at h k)) f (sym e) in rw (t.0, t.1)

  -- the value field of a record
  pub record Field (f : List ℕ) : Type 0 where
    pub inside : k < length h / 80
    pub long : length f ≡ 70
    pub is : value_of h k ≡ field_value (k * 80 + 10) f

  pub field_is : (f : List ℕ) → Some f ≡ field_or_none → Field f
  unfolding value_of card_at
  field_is f e =
      let t = cond_some (has_value (card_at h k)) (drop 10 (card_at h k)) f (sym e) in
      let inside = value_below h k t.0 in
      let there = lt-ltb k (length h / 80) inside in
      record {
        inside = inside;
        long = ap length (sym t.1) ∙ rw there (simp (length-drop, length-take) (omega arith));
        is = rw (t.0, t.1);
      }
