-- The sign and the digits of a number as it is written. Laws cite these.
-- Assumes nothing.
use Rattle.std.specs.Prelude.{◌≡◌, ℕ, List, [], ◌∷◌, Bool, true, false, length}
use Rattle.ascii.specs.Text.{front, digit}

pub data Sign : Type 0 where
  no_sign plus minus : Sign

abbrev pub sign_text : Sign → List ℕ
sign_text no_sign = []
sign_text plus = 43 ∷ []
sign_text minus = 45 ∷ []

abbrev pub negative : Sign → Bool
negative no_sign = false
negative plus = false
negative minus = true

-- digits and nothing else
abbrev pub Digits : List ℕ → Type 0
Digits s = front digit s ≡ length s
