-- A real number as it is written: the parts of its text, the text, and the double that the parts stand for. Laws cite these.
-- Assumes nothing.
use Rattle.std.specs.Prelude.{ℕ, ◌+◌, ◌*◌, ◌^◌, ◌<◌, List, [], ◌∷◌, ◌++◌, Bool, true, false, not, ◌&&◌, ◌||◌, cond, length, eqb, ltb, leb, Option, Some, None}
use Rattle.std.specs.Float.{Float, nan, inf, fin, binary64}
use Rattle.std.specs.Float.Ieee.{round}
use Rattle.ascii.specs.Text.{decimal}
pub use Rattle.card.specs.Sign.{Sign, no_sign, plus, minus, Digits, sign_text, negative}

-- ---- the parts

pub data Letter : Type 0 where
  letter_e letter_d : Letter

pub record Exponent : Type 0 where
  pub letter : Letter
  pub sign : Sign
  pub digits : List ℕ

-- the sign, the digits before the point, those after it if there is a point, and the exponent if there is one
pub record Number : Type 0 where
  pub sign : Sign
  pub whole : List ℕ
  pub fraction : Option (List ℕ)
  pub exponent : Option Exponent

abbrev pub fraction_digits : Option (List ℕ) → List ℕ
fraction_digits None = []
fraction_digits (Some f) = f

-- an exponent has a digit or more
abbrev pub ExponentDigits : Option Exponent → Type 0
ExponentDigits None = Unit {0}
ExponentDigits (Some e) = Digits e.digits × (0 < length e.digits)

-- a digit or more stands before the point or after it
pub record IsNumber (n : Number) : Type 0 where
  pub whole : Digits n.whole
  pub fraction : Digits (fraction_digits n.fraction)
  pub some : 0 < length (n.whole ++ fraction_digits n.fraction)
  pub exponent : ExponentDigits n.exponent

-- ---- the text

abbrev pub letter_byte : Letter → ℕ
letter_byte letter_e = 69
letter_byte letter_d = 68

abbrev pub fraction_text : Option (List ℕ) → List ℕ
fraction_text None = []
fraction_text (Some f) = 46 ∷ f

abbrev pub exponent_text : Option Exponent → List ℕ
exponent_text None = []
exponent_text (Some e) = letter_byte e.letter ∷ (sign_text e.sign ++ e.digits)

abbrev pub text : Number → List ℕ
text n = sign_text n.sign ++ (n.whole ++ (fraction_text n.fraction ++ exponent_text n.exponent))

-- ---- the double

-- the number without its point, sign and exponent
abbrev pub significand : Number → ℕ
significand n = decimal 0 (n.whole ++ fraction_digits n.fraction)

-- the powers of ten that it is multiplied by and divided by: each place after the point divides by ten
abbrev pub up : Option Exponent → ℕ
up None = 0
up (Some e) = cond (negative e.sign) 0 (decimal 0 e.digits)

abbrev pub down : Option Exponent → ℕ
down None = 0
down (Some e) = cond (negative e.sign) (decimal 0 e.digits) 0

-- the double nearest to m times 10 to the power u divided by 10 to the power d; 0 has no minus
abbrev pub rounded : Bool → ℕ → ℕ → ℕ → Float
rounded neg m u d = round binary64 (neg && ltb 0 m) (m * 10 ^ u) (10 ^ d)

abbrev pub double : Number → Float
double n = rounded (negative n.sign) (significand n) (up n.exponent) (length (fraction_digits n.fraction) + down n.exponent)

-- 15 digits at most, and 22 powers of ten up or down
abbrev pub within : ℕ → ℕ → ℕ → Bool
within m u d = ltb m (10 ^ 15) && (leb u (d + 22) && leb d (u + 22))

-- neither a point nor an exponent
abbrev pub bare : Option (List ℕ) → Option Exponent → Bool
bare None None = true
bare None (Some e) = false
bare (Some f) e = false

-- within the limits, or 9223372036854775808 with neither a point nor an exponent
abbrev pub is_taken : Number → Bool
is_taken n =
    within (significand n) (up n.exponent) (length (fraction_digits n.fraction) + down n.exponent)
    || (bare n.fraction n.exponent && eqb (significand n) 9223372036854775808)

abbrev pub value : Number → Option Float
value n = cond (is_taken n) (Some (double n)) None

-- a finite number, and no zero with a minus
abbrev pub proper : Float → Bool
proper nan = false
proper (inf s) = false
proper (fin s m e) = not (s && eqb m 0)
