-- What is written is read: each part of a text is found again, and its number is the one that the parts stand for.
-- Assumes nothing.
use Rattle.std.proofs.Common.{◌≡◌, ℕ, ◌+◌, ◌<◌, List, [], ◌∷◌, ◌++◌, Bool, true, false, ◌&&◌, ◌||◌, length, drop, cond, Some, None, refl, ap, ◌∙◌, arith, append_assoc}
use Rattle.std.specs.Prelude.{Option, eqb, pos, neg_ℤ, ◌-ℤ◌}
use Rattle.std.specs.Float.{Float}
use borrow.Author.Tests.{lt-ltb}
use Rattle.ascii.specs.Text.{decimal}
use Rattle.card.specs.Ends.{follows}
use Rattle.card.specs.Value.{signed}
use Rattle.real.specs.Real.{is_minus, after_sign, digits, after_digits, has_point, fraction, after_number, has_exponent, nearest, limited, with_exponent, without_exponent, unsigned, real_of}
use Rattle.real.specs.Written.{Exponent, Number, fraction_digits, Digits, ExponentDigits, IsNumber, sign_text, fraction_text, exponent_text, text, negative, up, down, rounded, within, bare, value}
use Rattle.real.proofs.Powers.{limited_is, power_is, places_is, nearest_is}
use Rattle.real.proofs.Texts.{digits_are, after_is, Other, other_after, no_exponent, other_letter, an_exponent, Bare, bare_digits, minus_is, unsigned_is}

-- the value of m with these digits after its point, if it has one, and an exponent or none
abbrev read_as : Bool → ℕ → Option (List ℕ) → Option Exponent → Option Float
read_as neg m f e =
    let d = length (fraction_digits f) + down e in
    cond (within m (up e) d || (bare f e && eqb m 9223372036854775808)) (Some (rounded neg m (up e) d)) None

abbrev pointed : Option (List ℕ) → Bool
pointed None = false
pointed (Some f) = true

-- a choice that a second test makes too
second : {A : Type 0} (p q : Bool) (x y : A) → (q ≡ true → x ≡ y) → cond q (Some x) (cond p (Some y) None) ≡ cond (p || q) (Some y) None
second true true x y h = ap (λ v. Some v) (h refl)
second true false x y h = refl
second false true x y h = ap (λ v. Some v) (h refl)
second false false x y h = refl

not_bare : (g : Option (List ℕ)) (e : Exponent) → bare g (Some e) ≡ false
not_bare None e = refl
not_bare (Some g) e = refl

-- ---- the definitions at parts that are known

module _ (neg : Bool) (m places : ℕ) where
  exponent_at : (s t x r : List ℕ) (n : Bool) → after_sign s ≡ t → is_minus s ≡ n → digits t ≡ x → after_digits t ≡ r → 0 < length x → follows r ≡ true
      → with_exponent neg m places s ≡ limited neg m (signed n (decimal 0 x) -ℤ pos places)
  unfolding with_exponent
  exponent_at s t x r n a b c d h f = rw (a, b, c, d, lt-ltb 0 (length x) h, f)

-- what comes after the digits
abbrev pub rest_of : Bool → ℕ → Bool → ℕ → List ℕ → Option Float
rest_of neg m point places u = cond (has_exponent u) (with_exponent neg m places (drop 1 u)) (without_exponent neg m point places u)

unsigned_at : (neg : Bool) (s w f u : List ℕ) (p : Bool) → digits s ≡ w → fraction s ≡ f → after_number s ≡ u → has_point s ≡ p → 0 < length (w ++ f)
    → unsigned neg s ≡ rest_of neg (decimal 0 (w ++ f)) p (length f) u
unfolding unsigned
unsigned_at neg s w f u p a b c d h = rw (b, c, a, d, lt-ltb 0 (length (w ++ f)) h)

module _ (r : List ℕ) (f : follows r ≡ true) where
  -- ---- what comes after the digits
  rest_other : (e : Option Exponent) → Other (exponent_text e ++ r)
  rest_other None = other_after r f
  rest_other (Some e) = other_letter ((sign_text e.sign ++ e.digits) ++ r) e.letter

  rest_read : (neg : Bool) (m : ℕ) (g : Option (List ℕ)) (e : Option Exponent) → ExponentDigits e
      → rest_of neg m (pointed g) (length (fraction_digits g)) (exponent_text e ++ r) ≡ read_as neg m g e
  unfolding without_exponent
  rest_read neg m None None h =
      rw (no_exponent r f, f)
      (ap (λ (v : Option Float). cond (eqb m 9223372036854775808) (Some (nearest neg m (pos 0))) v) (limited_is neg m (neg_ℤ (pos 0)) 0 0 (places_is 0))
      ∙ second (within m 0 0) (eqb m 9223372036854775808) (nearest neg m (pos 0)) (rounded neg m 0 0) (λ t. nearest_is neg m))
  rest_read neg m (Some g) None h =
      let d = length g in
      rw (no_exponent r f, f)
      (limited_is neg m (neg_ℤ (pos d)) 0 (d + 0) (places_is d)
      ∙ second (within m 0 (d + 0)) false (rounded neg m 0 (d + 0)) (rounded neg m 0 (d + 0)) (λ t. refl))
  rest_read neg m g (Some e) h =
      let d = length (fraction_digits g) in
      let t = (sign_text e.sign ++ e.digits) ++ r in
      let x = e.digits in
      let n = decimal 0 x in
      let b = bare_digits x r h.0 h.1 in
      let o = other_after r f in
      let s = append_assoc (sign_text e.sign) x r in
      let y = rounded neg m (cond (negative e.sign) 0 n) (d + cond (negative e.sign) n 0) in
      rw (an_exponent t e.letter, not_bare g e)
      (ap (with_exponent neg m d) s
      ∙ exponent_at neg m d (sign_text e.sign ++ (x ++ r)) (x ++ r) x r (negative e.sign) (unsigned_is (x ++ r) b e.sign) (minus_is (x ++ r) b e.sign)
      (digits_are r o.digit x h.0) (after_is r o.digit x h.0) h.1 f
      ∙ limited_is neg m (signed (negative e.sign) n -ℤ pos d) (cond (negative e.sign) 0 n) (d + cond (negative e.sign) n 0) (power_is (negative e.sign) n d)
      ∙ second (within m (cond (negative e.sign) 0 n) (d + cond (negative e.sign) n 0)) false y y (λ t. refl))

  -- ---- the digits, and the sign
  number_read : (neg : Bool) (w : List ℕ) (g : Option (List ℕ)) (e : Option Exponent) → Digits w → Digits (fraction_digits g) → 0 < length (w ++ fraction_digits g)
      → ExponentDigits e → unsigned neg (w ++ (fraction_text g ++ (exponent_text e ++ r))) ≡ read_as neg (decimal 0 (w ++ fraction_digits g)) g e
  number_read neg w None e d q h x =
      let u = exponent_text e ++ r in
      let o = rest_other e in
      let a = after_is u o.digit w d in
      unsigned_at neg (w ++ u) w [] u false (digits_are u o.digit w d) (rw (a, o.point)) (rw (a, o.point)) (rw a o.point) h
      ∙ rest_read neg (decimal 0 (w ++ [])) None e x
  number_read neg w (Some g) e d q h x =
      let u = exponent_text e ++ r in
      let t = 46 ∷ (g ++ u) in
      let o = rest_other e in
      let a = after_is t refl w d in
      unsigned_at neg (w ++ t) w g u true (digits_are t refl w d) (rw a (digits_are u o.digit g q)) (rw a (after_is u o.digit g q)) (rw a) h
      ∙ rest_read neg (decimal 0 (w ++ g)) (Some g) e x

  -- what the sign stands in front of begins with a digit or with the point
  bare_number : (w : List ℕ) (g : Option (List ℕ)) (t : List ℕ) → Digits w → 0 < length (w ++ fraction_digits g) → Bare (w ++ (fraction_text g ++ t))
  bare_number [] None t d h = absurd (omega arith)
  bare_number [] (Some g) t d h = record { minus = refl; plus = refl }
  bare_number (b ∷ w) g t d h = bare_digits (b ∷ w) (fraction_text g ++ t) d (omega arith)

  pub number_value : (n : Number) → IsNumber n → real_of (text n ++ r) ≡ value n
  number_value n p =
      let g = fraction_text n.fraction in
      let e = exponent_text n.exponent in
      let t = n.whole ++ (g ++ (e ++ r)) in
      let b = bare_number n.whole n.fraction (e ++ r) p.whole p.some in
      let s : text n ++ r ≡ sign_text n.sign ++ t = simp append_assoc in
      ap real_of s
      ∙ ap (λ (u : List ℕ). unsigned (is_minus (sign_text n.sign ++ t)) u) (unsigned_is t b n.sign)
      ∙ ap (λ (m : Bool). unsigned m t) (minus_is t b n.sign)
      ∙ number_read (negative n.sign) n.whole n.fraction n.exponent p.whole p.fraction p.some p.exponent
