-- The tests of a record's bytes, and a record that is not there, which reads as a blank one.
-- Assumes nothing.
use Rattle.std.proofs.Common.{◌≡◌, ℕ, ◌+◌, ◌-◌, ◌*◌, ◌/◌, ◌<◌, List, [], ◌∷◌, Bool, true, false, ◌&&◌, cond, length, take, drop, replicate, Bor, Some, None, refl, sym, ap, ◌∙◌, arith}
use Rattle.std.specs.Prelude.{Option, MatchOption}
use Rattle.std.specs.Option.{option_copied}
use Rattle.std.specs.Array.{IsFirstChunk}
use Rattle.std.specs.Cmp.{nat_eq_equiv}
use Rattle.std.specs.Cmp.Lexicographic.{pointwise}
use mathlib.Core.Bool.{true≢false}
use lib.Dec.{eqb, ltb}
use borrow.Author.Tests.{lt-ltb, le-ltb, ltb-true}
use Rattle.ascii.specs.Text.{bytes, same, spaces, trim}
use Rattle.card.specs.Record.{card_at, is_end, has_value, name_of}
use Rattle.ascii.proofs.Cases.{either}
use Rattle.ascii.proofs.Parts.{part_from}
use Rattle.ascii.proofs.Spaces.{spaces_same}

-- END by its letters and the spaces after them
pub end_parts : (s : List ℕ) → length s ≡ 80 → is_end s ≡ (pointwise eqb (69 ∷ 78 ∷ 68 ∷ []) (take 3 s) && spaces (drop 3 s))
unfolding is_end bytes same
end_parts [] l = absurd (omega arith)
end_parts (a ∷ []) l = absurd (omega arith)
end_parts (a ∷ b ∷ []) l = absurd (omega arith)
end_parts (a ∷ b ∷ c ∷ r) l =
    let left : length r ≡ 77 = omega arith in
    let rest : same r (replicate 77 32) ≡ spaces r = rw left at (spaces_same r) in
    rw (nat_eq_equiv.symm a 69, nat_eq_equiv.symm b 78, nat_eq_equiv.symm c 68, rest)
    (letters (eqb 69 a) (eqb 78 b) (eqb 68 c) (spaces r))
  where
    letters : (p q t u : Bool) → (p && (q && (t && u))) ≡ ((p && (q && (t && true))) && u)
    letters true true true u = refl
    letters true true false u = refl
    letters true false t u = refl
    letters false q t u = refl

module _ (s : List ℕ) where
  pub name_none : has_value s ≡ false → name_of s ≡ []
  unfolding name_of
  name_none e = rw e

  pub name_some : has_value s ≡ true → name_of s ≡ trim (take 8 s)
  unfolding name_of
  name_some e = rw e

module _ (h : List ℕ) (k : ℕ) where
  -- the record's bytes, or none past the last whole record
  abbrev pub record_or_none : Option (List ℕ)
  record_or_none = cond (ltb k (length h / 80)) (Some (card_at h k)) None

  -- the first 80 bytes of what stands from the record on
  pub record_cut : (part : List ℕ) (r : Option (Bor (List ℕ))) → part ≡ take (length h - k * 80) (drop (k * 80) h)
      → length part + k * 80 ≡ length h → MatchOption r (length part < 80) (λ y. IsFirstChunk part y.now 80)
      → option_copied r ≡ record_or_none
  unfolding card_at
  record_cut part None e l m = rw (le-ltb k (length h / 80) (omega arith))
  record_cut part (Some y) e l m =
      rw (lt-ltb k (length h / 80) (omega (arith, m.enough, l))) (ap Some (m.same ∙ ap (take 80) (e ∙ part_from h (k * 80))))

  -- a record that holds a value is there
  pub value_below : has_value (card_at h k) ≡ true → k < length h / 80
  unfolding card_at has_value same bytes
  value_below e = either (ltb k (length h / 80)) (λ t. ltb-true k (length h / 80) t) (λ t. absurd (true≢false (sym (rw t at e))))

  module _ (missing : None ≡ record_or_none) where
    over : ltb k (length h / 80) ≡ false
    over =
        either (ltb k (length h / 80))
        (λ t. let y : None ≡ Some (card_at h k) = rw t at missing in cc)
        (λ t. t)

    blank : card_at h k ≡ replicate 80 32
    unfolding card_at
    blank = rw over

    pub no_end : is_end (card_at h k) ≡ false
    unfolding is_end bytes same
    no_end = rw blank

    pub no_value : has_value (card_at h k) ≡ false
    unfolding has_value bytes same
    no_value = rw blank

    pub no_name : name_of (card_at h k) ≡ []
    unfolding name_of
    no_name = rw no_value

  module _ (r : List ℕ) (there : Some r ≡ record_or_none) where
    below : ltb k (length h / 80) ≡ true
    below =
        either (ltb k (length h / 80)) (λ t. t)
        (λ t. let y : Some r ≡ None = rw t at there in cc)

    pub record_is : r ≡ card_at h k
    record_is = let y : Some r ≡ Some (card_at h k) = rw below at there in cc
