-- What the private functions have of a float. No public contract cites it.
-- Assumes nothing.
use Rattle.std.specs.Prelude.{ℕ, Bool, List, leb, Option, Some, None}
use Rattle.weight.specs.declared.Edition.{Edition}
use Rattle.weight.specs.Weight.{units_text, stars, in_ten_places}

-- the sign bit
abbrev pub sign_bit : ℕ → Bool
sign_bit bits = leb 2147483648 bits

-- the text of some units, or of none
abbrev pub text_by : Edition → Bool → Option ℕ → List ℕ
text_by ed negative (Some units) = in_ten_places (units_text ed negative units)
text_by ed negative None = stars
