-- The numbers of digits and of an exponent that are read, and those that are too large to be held: none of these is within the limits.
-- Assumes nothing.
use Rattle.std.proofs.Common.{◌≡◌, ℕ, zero, suc, ◌+◌, ◌-◌, ◌^◌, ◌≤◌, ◌<◌, List, [], ◌∷◌, ◌++◌, Bool, true, false, not, ◌&&◌, length, drop, cond, Some, None, refl, sym, ap, arith}
use Rattle.std.specs.Prelude.{Option, ltb, ℤ, pos, neg_ℤ, ◌-ℤ◌}
use Rattle.std.proofs.lemmas.Option.{cond_some}
use mathlib.Core.Bool.{and-false}
use borrow.Author.Tests.{lt-ltb, le-ltb, lt-leb, ltb-false, ne_eqb, eq-eqb}
use Rattle.ascii.specs.Text.{front, digit, decimal}
use Rattle.ascii.specs.Number.{read_on, number}
use Rattle.ascii.proofs.Cases.{either}
use Rattle.card.specs.Ends.{follows}
use Rattle.card.specs.Value.{signed}
use Rattle.real.specs.Real.{power_ok, limited, digits, after_digits, after_sign, is_minus, fraction, all_digits, after_number, has_exponent, has_point, with_exponent, without_exponent, unsigned}
use Rattle.real.specs.Written.{Digits}

-- ---- lists of digits

pub digits_only : (s : List ℕ) → Digits (digits s)
unfolding front
digits_only [] = refl
digits_only (b ∷ bs) = either (digit b) (λ t. rw (t, t) (ap suc (digits_only bs))) (λ t. rw t)

pub digits_append : (a b : List ℕ) → Digits a → Digits b → Digits (a ++ b)
unfolding front
digits_append [] b e h = h
digits_append (x ∷ a) b e h =
    either (digit x)
    (λ t. rw t (ap suc (digits_append a b (let y : suc (front digit a) ≡ suc (length a) = rw t at e in omega arith) h)))
    (λ t. let y : zero ≡ suc (length a) = rw t at e in absurd (omega arith))

pub all_only : (s : List ℕ) → Digits (all_digits s)
unfolding front
all_only s =
    either (has_point s)
    (λ t. rw t (digits_append (digits s) (digits (drop 1 (after_digits s))) (digits_only s) (digits_only (drop 1 (after_digits s)))))
    (λ t. rw t (digits_append (digits s) [] (digits_only s) refl))

module _ (d : List ℕ) where
  -- digits that are read as a number
  pub record Read (v : ℕ) : Type 0 where
    pub some : ltb 0 (length d) ≡ true
    pub is : decimal 0 d ≡ v

  pub read : (v : ℕ) → Some v ≡ number d → Read v
  unfolding number
  read v e =
      either (ltb 0 (length d))
      (λ t. let y : read_on 0 d ≡ Some v = sym (rw t at e) in record { some = t; is = (cond_some _ (decimal 0 d) v y).1 })
      (λ t. let y : Some v ≡ None = rw t at e in cc)

  -- and digits that are not: there are none, or their number is too large
  pub unread : Digits d → None ≡ number d → ltb 0 (length d) ≡ true → 2 ^ 64 ≤ decimal 0 d
  unfolding number
  unread o e t =
      either (ltb (decimal 0 d) (2 ^ 64))
      (λ l. let y : None ≡ Some (decimal 0 d) = rw (t, eq-eqb (front digit d) (length d) o, l) at e in cc)
      (λ l. ltb-false (decimal 0 d) (2 ^ 64) l)

-- ---- what is outside the limits

pub limited_large : (minus : Bool) (m : ℕ) (p : ℤ) → 10 ^ 15 ≤ m → limited minus m p ≡ None
limited_large minus m p h = rw (le-ltb m (10 ^ 15) h)

-- an exponent that is too large to be held is outside, since a text has fewer places than 2 ^ 63
far : (down : Bool) (x places : ℕ) → 2 ^ 64 ≤ x → places < 2 ^ 63 → power_ok (signed down x -ℤ pos places) ≡ false
far false x zero h g = lt-leb (x + 0) 22 (omega arith)
far false x (suc p) h g = rw (le-ltb x (suc p) (omega arith)) (lt-leb (x - suc p) 22 (omega arith))
far true zero places h g = absurd (omega arith)
far true (suc x) zero h g = rw (lt-ltb 0 (suc x) (omega arith)) (le-ltb (suc x - 1) 22 (omega arith))
far true (suc x) (suc p) h g = le-ltb (suc (x + p)) 22 (omega arith)

pub limited_far : (minus : Bool) (m : ℕ) (down : Bool) (x places : ℕ) → 2 ^ 64 ≤ x → places < 2 ^ 63 → limited minus m (signed down x -ℤ pos places) ≡ None
limited_far minus m down x places h g = rw (far down x places h g, and-false (ltb m (10 ^ 15)))

-- ---- the cases of the definitions

module _ (minus : Bool) (m : ℕ) (s : List ℕ) where
  pub exponent_large : (places : ℕ) → 10 ^ 15 ≤ m → with_exponent minus m places s ≡ None
  unfolding with_exponent
  exponent_large places h =
      let e = after_sign s in
      either (ltb 0 (length (digits e)) && follows (after_digits e))
      (λ t. rw t (limited_large minus m (signed (is_minus s) (decimal 0 (digits e)) -ℤ pos places) h))
      (λ t. rw t)

  pub plain_large : (point : Bool) (places : ℕ) → 2 ^ 64 ≤ m → without_exponent minus m point places s ≡ None
  unfolding without_exponent
  plain_large point places h =
      either (follows s)
      (λ t. rw (t, ne_eqb m 9223372036854775808 (λ e. omega arith), and-false (not point)) (limited_large minus m (neg_ℤ (pos places)) (omega arith)))
      (λ t. rw t)

  module _ (places : ℕ) where
    abbrev exponent : List ℕ
    exponent = digits (after_sign s)

    pub exponent_unread : places < 2 ^ 63 → None ≡ number exponent → with_exponent minus m places s ≡ None
    unfolding with_exponent
    exponent_unread h e =
        either (ltb 0 (length exponent))
        (λ t. either (follows (after_digits (after_sign s)))
        (λ u. rw (t, u) (limited_far minus m (is_minus s) (decimal 0 exponent) places (unread exponent (digits_only (after_sign s)) e t) h))
        (λ u. rw (t, u)))
        (λ t. rw t)

    pub exponent_read : (v : ℕ) → Some v ≡ number exponent → follows (after_digits (after_sign s)) ≡ true
        → with_exponent minus m places s ≡ limited minus m (signed (is_minus s) v -ℤ pos places)
    unfolding with_exponent
    exponent_read v e f = let r = read exponent v e in rw (r.some, f, r.is)

module _ (minus : Bool) (s : List ℕ) where
  pub unsigned_unread : None ≡ number (all_digits s) → unsigned minus s ≡ None
  unfolding unsigned
  unsigned_unread e =
      either (ltb 0 (length (all_digits s)))
      (λ t.
      let m = decimal 0 (all_digits s) in
      let large : 2 ^ 64 ≤ m = unread (all_digits s) (all_only s) e t in
      either (has_exponent (after_number s))
      (λ u. rw (t, u) (exponent_large minus m (drop 1 (after_number s)) (length (fraction s)) (omega arith)))
      (λ u. rw (t, u) (plain_large minus m (after_number s) (has_point s) (length (fraction s)) large)))
      (λ t. rw t)

  module _ (v : ℕ) (e : Some v ≡ number (all_digits s)) where
    abbrev letter : Option (List ℕ)
    letter = cond (has_exponent (after_number s)) (Some (drop 1 (after_number s))) None

    pub unsigned_exponent : (t : List ℕ) → Some t ≡ letter → unsigned minus s ≡ with_exponent minus v (length (fraction s)) t
    unfolding unsigned
    unsigned_exponent t h =
        let r = read (all_digits s) v e in
        let l = cond_some (has_exponent (after_number s)) (drop 1 (after_number s)) t (sym h) in
        rw (r.some, l.0, r.is, l.1)

    pub unsigned_plain : None ≡ letter → unsigned minus s ≡ without_exponent minus v (has_point s) (length (fraction s)) (after_number s)
    unfolding unsigned
    unsigned_plain h =
        let r = read (all_digits s) v e in
        either (has_exponent (after_number s))
        (λ t. let y : None ≡ Some (drop 1 (after_number s)) = rw t at h in cc)
        (λ t. rw (r.some, t, r.is))
