-- The parts of a text that is put together of a sign, digits and what comes after them.
-- Assumes nothing.
use Rattle.std.proofs.Common.{◌≡◌, ℕ, zero, suc, ◌<◌, List, [], ◌∷◌, ◌++◌, true, false, length, take, drop, refl, ap, ◌∙◌, arith}
use Rattle.std.specs.Prelude.{eqb}
use Rattle.std.proofs.Math.Seq.{take-append_seam, drop-append_seam}
use mathlib.Core.Logic.{◌⊎◌, inl, inr}
use borrow.Author.Tests.{ne_eqb, eqb-true}
use Rattle.ascii.specs.Text.{front, digit}
use Rattle.ascii.proofs.Cases.{either}
use Rattle.ascii.proofs.Decimal.{digit_range}
use Rattle.ascii.proofs.Front.{front_append}
use Rattle.card.specs.Ends.{follows}
use Rattle.real.specs.Real.{first, is_minus, after_sign, digits, after_digits, has_exponent}
use Rattle.real.specs.Written.{Letter, letter_e, letter_d, letter_byte, Sign, no_sign, plus, minus, sign_text, negative, Digits}

-- ---- digits in front of something else
module _ (t : List ℕ) (other : digit (first t) ≡ false) where
  none : (s : List ℕ) → digit (first s) ≡ false → front digit s ≡ 0
  unfolding front
  none [] o = refl
  none (b ∷ bs) o = rw o

  front_digits : (w : List ℕ) → Digits w → front digit (w ++ t) ≡ length w
  front_digits w d = front_append digit w t d (none t other)

  module _ (w : List ℕ) (d : Digits w) where
    pub digits_are : digits (w ++ t) ≡ w
    digits_are = ap (λ (n : ℕ). take n (w ++ t)) (front_digits w d) ∙ take-append_seam w t

    pub after_is : after_digits (w ++ t) ≡ t
    after_is = ap (λ (n : ℕ). drop n (w ++ t)) (front_digits w d) ∙ drop-append_seam w t

-- ---- what may come after the digits: it begins with no digit and with no point
pub record Other (t : List ℕ) : Type 0 where
  pub digit : digit (first t) ≡ false
  pub point : eqb (first t) 46 ≡ false

module _ (r : List ℕ) (f : follows r ≡ true) where
  first_is : (first r ≡ 0) ⊎ ((first r ≡ 32) ⊎ (first r ≡ 47))
  unfolding follows front
  first_is =
      elim r as (λ (r : List ℕ). follows r ≡ true → (first r ≡ 0) ⊎ ((first r ≡ 32) ⊎ (first r ≡ 47))) [
        | [] ↦ λ e. inl refl
        | b ∷ bs ↦
            λ e. either (eqb b 32) (λ t. inr (inl (eqb-true b 32 t))) (λ t. inr (inr (eqb-true b 47 (rw t at e))))
      ] f

  pub other_after : Other r
  other_after =
      elim first_is [
        | inl e ↦ record { digit = rw e; point = rw e }
        | inr h ↦ elim h [ inl e ↦ record { digit = rw e; point = rw e } | inr e ↦ record { digit = rw e; point = rw e } ]
      ]

  -- what may follow a value is no exponent
  pub no_exponent : has_exponent r ≡ false
  no_exponent = elim first_is [ inl e ↦ rw e | inr h ↦ elim h [ inl e ↦ rw e | inr e ↦ rw e ] ]

module _ (t : List ℕ) where
  pub other_letter : (l : Letter) → Other (letter_byte l ∷ t)
  other_letter letter_e = record { digit = refl; point = refl }
  other_letter letter_d = record { digit = refl; point = refl }

  pub an_exponent : (l : Letter) → has_exponent (letter_byte l ∷ t) ≡ true
  an_exponent letter_e = refl
  an_exponent letter_d = refl

-- ---- a sign in front of something that begins with none
pub record Bare (t : List ℕ) : Type 0 where
  pub minus : eqb (first t) 45 ≡ false
  pub plus : eqb (first t) 43 ≡ false

-- a digit is no sign
pub bare_digits : (w t : List ℕ) → Digits w → 0 < length w → Bare (w ++ t)
unfolding front
bare_digits [] t d h = absurd (omega arith)
bare_digits (x ∷ w) t d h =
    either (digit x)
    (λ e.
    let r = digit_range x e in
    record { minus = ne_eqb x 45 (λ q. omega arith); plus = ne_eqb x 43 (λ q. omega arith) })
    (λ e. let y : zero ≡ suc (length w) = rw e at d in absurd (omega arith))

module _ (t : List ℕ) (b : Bare t) where
  pub minus_is : (s : Sign) → is_minus (sign_text s ++ t) ≡ negative s
  minus_is no_sign = b.minus
  minus_is plus = refl
  minus_is minus = refl

  pub unsigned_is : (s : Sign) → after_sign (sign_text s ++ t) ≡ t
  unsigned_is no_sign = rw (b.minus, b.plus)
  unsigned_is plus = refl
  unsigned_is minus = refl
