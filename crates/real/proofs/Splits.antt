-- What is read is written: a text of which a number is read is put together of parts.
-- Assumes nothing.
use Rattle.std.proofs.Common.{◌≡◌, ℕ, ◌<◌, List, [], ◌∷◌, ◌++◌, Bool, true, ◌&&◌, length, drop, Some, None, refl, sym, ap, ◌∙◌, arith, append_assoc}
use Rattle.std.specs.Prelude.{Option, ltb, eqb}
use Rattle.std.specs.Float.{Float}
use Rattle.std.proofs.lemmas.List.{take-append-drop}
use borrow.Author.Tests.{ltb-true, eqb-true}
use Rattle.ascii.specs.Text.{front, digit, decimal}
use Rattle.ascii.proofs.Cases.{either, both}
use Rattle.card.specs.Ends.{follows}
use Rattle.real.specs.Real.{first, is_minus, after_sign, digits, after_digits, has_point, fraction, all_digits, after_number, with_exponent, without_exponent, unsigned, real_of}
use Rattle.real.specs.Written.{Sign, no_sign, plus, minus, Letter, letter_e, letter_d, Exponent, Number, fraction_digits, Digits, ExponentDigits, IsNumber, sign_text, letter_byte, fraction_text, exponent_text, text}
use Rattle.real.proofs.Numbers.{digits_only}
use Rattle.real.proofs.Reading.{rest_of}

none_some : {x : Float} → ◌≡◌ {A = Option Float} None (Some x) → ⊥
none_some e = cc

-- the first byte and what comes after it
first_byte : (b : ℕ) (t : List ℕ) → 0 < b → eqb (first t) b ≡ true → t ≡ b ∷ drop 1 t
first_byte b [] h e = absurd (let z : 0 ≡ b = eqb-true 0 b e in omega arith)
first_byte b (c ∷ cs) h e = ap (λ (x : ℕ). x ∷ cs) (eqb-true c b e)

digits_rest : (s : List ℕ) → s ≡ digits s ++ after_digits s
digits_rest s = sym (take-append-drop (front digit s) s)

sign_rest : (s : List ℕ) → (g : Sign) × (s ≡ sign_text g ++ after_sign s)
sign_rest s =
    either (eqb (first s) 45)
    (λ t. (minus, rw t (first_byte 45 s (omega arith) t)))
    (λ t. either (eqb (first s) 43)
    (λ u. (plus, rw (t, u) (first_byte 43 s (omega arith) u)))
    (λ u. (no_sign, rw (t, u))))

-- ---- an exponent, or none, and what may follow
record Tail (u : List ℕ) : Type 0 where
  exponent : Option Exponent
  rest : List ℕ
  good : ExponentDigits exponent
  follows : follows rest ≡ true
  is : u ≡ exponent_text exponent ++ rest

module _ (x : Float) (neg : Bool) (m places : ℕ) where
  exponent_tail : (l : Letter) (u s : List ℕ) → u ≡ letter_byte l ∷ s → with_exponent neg m places s ≡ Some x → Tail u
  unfolding with_exponent
  exponent_tail l u s e h =
      let g = sign_rest s in
      let t = after_sign s in
      either (ltb 0 (length (digits t)) && follows (after_digits t))
      (λ q.
      let b = both (ltb 0 (length (digits t))) (follows (after_digits t)) q in
      record {
        exponent = Some record { letter = l; sign = g.0; digits = digits t };
        rest = after_digits t;
        good = (digits_only t, ltb-true 0 (length (digits t)) b.0);
        follows = b.1;
        is =
            e ∙ ap (λ (v : List ℕ). letter_byte l ∷ v)
            (g.1 ∙ ap (λ (v : List ℕ). sign_text g.0 ++ v) (digits_rest t) ∙ sym (append_assoc (sign_text g.0) (digits t) (after_digits t)));
      })
      (λ q. absurd (none_some (rw q at h)))

  tail : (point : Bool) (u : List ℕ) → rest_of neg m point places u ≡ Some x → Tail u
  unfolding without_exponent
  tail point u h =
      either (eqb (first u) 69)
      (λ t. exponent_tail letter_e u (drop 1 u) (first_byte 69 u (omega arith) t) (rw t at h))
      (λ t. either (eqb (first u) 68)
      (λ v. exponent_tail letter_d u (drop 1 u) (first_byte 68 u (omega arith) v) (rw (t, v) at h))
      (λ v. either (follows u)
      (λ f. record { exponent = None; rest = u; good = tt; follows = f; is = refl })
      (λ f. absurd (none_some (rw (t, v, f) at h)))))

-- ---- all parts
pub record Split (s : List ℕ) : Type 0 where
  pub number : Number
  pub rest : List ℕ
  pub parts : IsNumber number
  pub follows : follows rest ≡ true
  pub is : s ≡ text number ++ rest

module _ (s t : List ℕ) (z : Tail (after_number t)) (some : 0 < length (all_digits t)) where
  build : (g : Sign) (f : Option (List ℕ)) → s ≡ sign_text g ++ t → t ≡ digits t ++ (fraction_text f ++ after_number t)
      → fraction t ≡ fraction_digits f → Digits (fraction_digits f) → Split s
  build g f e d q o =
      let a = fraction_text f in
      let b = exponent_text z.exponent in
      let l : sign_text g ++ (digits t ++ (a ++ (b ++ z.rest))) ≡ sign_text g ++ (digits t ++ (a ++ b)) ++ z.rest = simp append_assoc in
      record {
        number = record { sign = g; whole = digits t; fraction = f; exponent = z.exponent };
        rest = z.rest;
        parts = record { whole = digits_only t; fraction = o; some = rw (← q) some; exponent = z.good };
        follows = z.follows;
        is =
            e ∙ ap (λ (v : List ℕ). sign_text g ++ v) (d ∙ ap (λ (v : List ℕ). digits t ++ (a ++ v)) z.is) ∙ l;
      }

  -- with a point, and without one
  splits : (g : Sign) → s ≡ sign_text g ++ t → Split s
  unfolding front
  splits g e =
      let u = after_digits t in
      let v = drop 1 u in
      either (has_point t)
      (λ p.
      let n : after_number t ≡ after_digits v = rw p in
      let d : u ≡ 46 ∷ (digits v ++ after_number t) = first_byte 46 u (omega arith) p ∙ ap (λ (y : List ℕ). 46 ∷ y) (digits_rest v ∙ ap (λ (y : List ℕ). digits v ++ y) (sym n)) in
      build g (Some (digits v)) e (digits_rest t ∙ ap (λ (y : List ℕ). digits t ++ y) d) (rw p) (digits_only v))
      (λ p.
      let n : after_number t ≡ u = rw p in
      build g None e (digits_rest t ∙ ap (λ (y : List ℕ). digits t ++ y) (sym n)) (rw p) refl)

module _ (x : Float) (s : List ℕ) (h : real_of s ≡ Some x) where
  pub split : Split s
  unfolding unsigned
  split =
      let g = sign_rest s in
      let t = after_sign s in
      either (ltb 0 (length (all_digits t)))
      (λ q.
      let some = ltb-true 0 (length (all_digits t)) q in
      let z = tail x (is_minus s) (decimal 0 (all_digits t)) (length (fraction t)) (has_point t) (after_number t) (rw q at h) in
      splits s t z some g.0 g.1)
      (λ q. absurd (none_some (rw q at h)))
