-- The text of a weight, which is a float (FORMAT.md, section 20). A finite float is `fin s m e`: its exact value is
-- m * 2 ^ e, below zero where s is true, and `up e` / `down e` is 2 ^ e.
-- Assumes nothing.
use Rattle.std.specs.Prelude.{ℕ, zero, suc, ◌+◌, ◌*◌, ◌/◌, ◌%◌, ◌^◌, Bool, ◌&&◌, cond, List, [], ◌∷◌, ◌++◌}
use Rattle.std.specs.Prelude.{length, replicate, leb, ltb, ℤ, Float}
use Rattle.std.specs.Float.{nan, inf, fin}
use Rattle.std.specs.Float.Ieee.{up, down}
use Rattle.ascii.specs.Number.{decimal_in}
use Rattle.weight.specs.declared.Edition.{Edition}
use Rattle.weight.specs.declared.Edition.TheVariants.{One, Two}

-- an edition's decimals
abbrev pub decimals : Edition → ℕ
decimals One = 1
decimals Two = 2

-- where a number halfway between q and q + 1 goes: in edition 1 away from zero, in edition 2 to the even one
abbrev pub halfway : Edition → ℕ → ℕ
halfway One q = q + 1
halfway Two q = q + q % 2

-- a / b to the nearest whole number
unfoldable pub rounded : Edition → ℕ → ℕ → ℕ
rounded ed a b =
    cond (ltb (a % b * 2) b) (a / b)
    (cond (ltb b (a % b * 2)) (a / b + 1) (halfway ed (a / b)))

-- m * 2 ^ e in units of the last decimal
abbrev pub units_of : Edition → ℕ → ℤ → ℕ
units_of ed m e = rounded ed (m * up e * 10 ^ decimals ed) (down e)

-- a minus (45) below zero; a rounded zero has none
abbrev pub sign_text : Bool → ℕ → List ℕ
sign_text negative units = cond (negative && ltb 0 units) (45 ∷ []) []

-- the last k digits of n, zeros in front
unfoldable pub last_digits : ℕ → ℕ → List ℕ
last_digits zero n = []
last_digits (suc k) n = last_digits k (n / 10) ++ ((48 + n % 10) ∷ [])

-- units of the last decimal as text: a minus or none, at least one digit, the point (46), the decimals. A finite float
-- of 32 bits has 39 digits before its point at most
unfoldable pub units_text : Edition → Bool → ℕ → List ℕ
units_text ed negative units =
    sign_text negative units ++ (decimal_in 39 (units / 10 ^ decimals ed) ++ (46 ∷ last_digits (decimals ed) units))

-- ten stars (42)
unfoldable pub stars : List ℕ
stars = replicate 10 42

-- a text of ten places at most, or ten stars
abbrev pub in_ten_places : List ℕ → List ℕ
in_ten_places text = cond (leb (length text) 10) text stars

-- the text of a weight
unfoldable pub weight_text : Edition → Float → List ℕ
weight_text ed nan = stars
weight_text ed (inf s) = stars
weight_text ed (fin s m e) = in_ten_places (units_text ed s (units_of ed m e))
