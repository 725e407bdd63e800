-- The laws of a number's text and of the double that is read of it.
-- Assumes nothing.
use Rattle.std.proofs.Common.{ap, ◌≡◌, List, ◌++◌, ℕ, true, Some, sym, ◌∙◌, ◌*◌, ◌^◌, ◌+◌, ◌&&◌, length, subst}
use Rattle.std.specs.Prelude.{ltb}
use Rattle.std.proofs.lemmas.Option.{cond_some}
use lib.Dec.{T}
use lib.Ieee.Fits.{round-fits}
use Rattle.std.specs.Float.{Float, binary64}
use Rattle.std.specs.Float.Ieee.{fits}
use Rattle.card.specs.Ends.{follows}
use Rattle.real.specs.Real.{real_of}
use Rattle.real.specs.Written.{Number, IsNumber, fraction_digits, negative, significand, up, down, text, is_taken, double, value, proper}
use Rattle.real.proofs.Finite.{double_proper}
use Rattle.real.proofs.Reading.{number_value}
use Rattle.real.proofs.Splits.{split}

-- What is written is read. In front of what may follow a value the text of a number gives the double nearest to it, and of a number that is
-- outside the limits nothing is read.
pub written_read : (n : Number) (r : List ℕ) → IsNumber n → follows r ≡ true → real_of (text n ++ r) ≡ value n
written_read n r p f = number_value r f n p

-- a text as a number that is taken, in front of what may follow a value, and the double nearest to that number
pub record Says (s : List ℕ) (x : Float) : Type 0 where
  pub number : Number
  pub rest : List ℕ
  pub parts : IsNumber number
  pub follows : follows rest ≡ true
  pub is : s ≡ text number ++ rest
  pub taken : is_taken number ≡ true
  pub double : x ≡ double number

-- What is read is written: nothing else than such a text is read, and as nothing else than the double nearest to its number.
pub read_written : (s : List ℕ) (x : Float) → real_of s ≡ Some x → Says s x
read_written s x h =
    let p = split x s h in
    let v : value p.number ≡ Some x = sym (number_value p.rest p.follows p.number p.parts) ∙ rw p.is at h in
    let t = cond_some (is_taken p.number) (double p.number) x v in
    record { number = p.number; rest = p.rest; parts = p.parts; follows = p.follows; is = p.is; taken = t.0; double = sym t.1 }

-- No number that is read is a NaN or an infinity, or a zero with a minus.
pub finite : (s : List ℕ) (x : Float) → real_of s ≡ Some x → proper x ≡ true
finite s x h =
    let r = read_written s x h in
    ap proper r.double ∙ double_proper r.number r.taken

-- What is read is a double.
pub read_fits : (s : List ℕ) (x : Float) → real_of s ≡ Some x → T (fits binary64 x)
read_fits s x h =
    let r = read_written s x h in let n = r.number in
    subst (λ (y : Float). T (fits binary64 y)) (sym r.double)
    (round-fits binary64 (negative n.sign && ltb 0 (significand n)) (significand n * 10 ^ up n.exponent)
    (10 ^ (length (fraction_digits n.fraction) + down n.exponent)))
