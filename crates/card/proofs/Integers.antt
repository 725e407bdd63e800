-- The text of an integer. A sign or none and digits, as many as are allowed at most, in front of what may follow a value
-- are read as their number (`written_read`), nothing else is read (`read_written`), and more digits are not
-- (`too_many`).
-- Assumes nothing.
use Rattle.std.specs.Prelude.{Some, None}
use Rattle.std.specs.Int.RustNames.{unsigned_abs}
use Rattle.std.proofs.lemmas.List.{take-append-drop}
use Rattle.std.proofs.Math.Seq.{take-length, take-append_seam, drop-append_seam}
use mathlib.Core.Path.{◌≡◌, refl, sym, ap, subst, ◌∙◌}
use mathlib.Core.List.{List, [], ◌∷◌, ◌++◌}
use mathlib.Core.Bool.{Bool, true, false, ◌&&◌}
use Prim.Native.Nat.{ℕ, zero, suc, ◌^◌, ◌≤◌, ◌<◌}
use native.Mathlib.Omega.{arith}
use lib.Dec.{eqb, ltb, leb}
use lib.IntN.{ℤ}
use lib.ListN.{length, take, drop}
use lib.Seq.{length-take-le}
use borrow.Author.Tests.{ne_eqb, eqb-true, ltb-true, leb-true, lt-ltb, le-leb}
use Rattle.ascii.specs.Text.{front, digit, decimal}
use Rattle.ascii.proofs.Cases.{either, both}
use Rattle.ascii.proofs.Decimal.{ten_le, digit_range}
use Rattle.ascii.proofs.Front.{front_le, front_append, front_more}
use Rattle.ascii.proofs.Reading.{front_take, decimal_below}
use Rattle.card.specs.Ends.{follows}
use Rattle.card.specs.Sign.{Sign, no_sign, plus, minus, Digits, sign_text, negative}
use Rattle.card.specs.Value.{signed, digits_value, integer_value}
use Rattle.card.proofs.Values.{digits_over}

-- what may follow a value begins with no digit
no_digit : (r : List ℕ) → follows r ≡ true → front digit r ≡ 0
unfolding follows front
no_digit [] f = refl
no_digit (b ∷ bs) f =
    either (eqb b 32) (λ t. rw (eqb-true b 32 t))
    (λ t. rw (eqb-true b 47 (rw t at f)))

-- a digit is no sign
unsigned_is : (most : ℕ) (w r : List ℕ) → Digits w → 0 < length w → integer_value most (w ++ r) ≡ digits_value most false (w ++ r)
unfolding integer_value front
unsigned_is most [] r d some = absurd (omega arith)
unsigned_is most (x ∷ w) r d some =
    either (digit x)
    (λ e.
    let r = digit_range x e in
    rw (ne_eqb x 45 (λ q. omega arith), ne_eqb x 43 (λ q. omega arith)))
    (λ e. let y : zero ≡ suc (length w) = rw e at d in absurd (omega arith))

module _ (most : ℕ) (w r : List ℕ) (d : Digits w) (some : 0 < length w) where
  by_sign : (g : Sign) → integer_value most (sign_text g ++ (w ++ r)) ≡ digits_value most (negative g) (w ++ r)
  unfolding integer_value
  by_sign no_sign = unsigned_is most w r d some
  by_sign plus = refl
  by_sign minus = refl

  pub written_read : (g : Sign) → length w ≤ most → follows r ≡ true
      → integer_value most (sign_text g ++ (w ++ r)) ≡ Some (signed (negative g) (decimal 0 w))
  unfolding digits_value
  written_read g few f =
      let e = front_append digit w r d (no_digit r f) in
      by_sign g ∙ rw (e, take-append_seam w r, drop-append_seam w r, lt-ltb 0 (length w) some, le-leb (length w) most few, f)

  -- whatever comes after them
  pub too_many : (g : Sign) → most < length w → integer_value most (sign_text g ++ (w ++ r)) ≡ None
  too_many g many = by_sign g ∙ digits_over most (negative g) (w ++ r) (omega (arith, front_more digit w r d))

-- a text as an integer in front of what may follow a value
pub record IntegerText (most : ℕ) (s : List ℕ) (z : ℤ) : Type 0 where
  pub sign : Sign
  pub digits : List ℕ
  pub rest : List ℕ
  pub is : s ≡ sign_text sign ++ (digits ++ rest)
  pub all : Digits digits
  pub some : 0 < length digits
  pub few : length digits ≤ most
  pub follows : follows rest ≡ true
  pub number : z ≡ signed (negative sign) (decimal 0 digits)

pub text_read : (most : ℕ) (s : List ℕ) (z : ℤ) → IntegerText most s z → integer_value most s ≡ Some z
text_read most s z t = rw t.is (written_read most t.digits t.rest t.all t.some t.sign t.few t.follows ∙ ap Some (sym t.number))

module _ (most : ℕ) (z : ℤ) where
  none_some : None ≡ Some z → ⊥
  none_some e = cc

  digits_text : (g : Sign) (s t : List ℕ) → s ≡ sign_text g ++ t → digits_value most (negative g) t ≡ Some z → IntegerText most s z
  unfolding digits_value
  digits_text g s t is e =
      let n = front digit t in
      either (ltb 0 n && (leb n most && follows (drop n t)))
      (λ b.
      let y : Some (signed (negative g) (decimal 0 (take n t))) ≡ Some z = rw b at e in
      let p = both (ltb 0 n) (leb n most && follows (drop n t)) b in let q = both (leb n most) (follows (drop n t)) p.1 in
      let l : length (take n t) ≡ n = length-take-le n t (front_le digit t) in
      record {
        sign = g;
        digits = take n t;
        rest = drop n t;
        is = is ∙ ap (λ (v : List ℕ). sign_text g ++ v) (sym (take-append-drop n t));
        all = front_take digit t n (omega arith) ∙ sym l;
        some = omega (arith, ltb-true 0 n p.0, l);
        few = omega (arith, leb-true n most q.0, l);
        follows = q.1;
        number = cc;
      })
      (λ b. absurd (none_some (rw b at e)))

  pub read_written : (s : List ℕ) → integer_value most s ≡ Some z → IntegerText most s z
  unfolding integer_value
  read_written [] e = absurd (none_some e)
  read_written (b ∷ bs) e =
      either (eqb b 45) (λ t. digits_text minus (b ∷ bs) bs (ap (λ (x : ℕ). x ∷ bs) (eqb-true b 45 t)) (rw t at e))
      (λ t. either (eqb b 43) (λ u. digits_text plus (b ∷ bs) bs (ap (λ (x : ℕ). x ∷ bs) (eqb-true b 43 u)) (rw (t, u) at e))
      (λ u. digits_text no_sign (b ∷ bs) (b ∷ bs) refl (rw (t, u) at e)))

signed_far : (neg : Bool) (n : ℕ) → unsigned_abs (signed neg n) ≤ n
signed_far true zero = omega arith
signed_far true (suc n) = omega arith
signed_far false n = omega arith

-- an integer of so many digits is less far from 0 than that power of ten
pub integer_small : (most : ℕ) (z : ℤ) (s : List ℕ) → integer_value most s ≡ Some z → unsigned_abs z < 10 ^ most
integer_small most z s e =
    let t = read_written most z s e in let n = length t.digits in
    let below = subst (λ (v : List ℕ). decimal 0 v < 10 ^ n) (take-length t.digits) (decimal_below t.digits n (omega (arith, t.all))) in
    rw t.number (omega (arith, below, signed_far (negative t.sign) (decimal 0 t.digits), ten_le {i = n} most t.few))
