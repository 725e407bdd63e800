-- Numbers as text: a number that a text is, and the text of a number (FORMAT.md, sections 16 and 17).
-- Assumes nothing.
use Rattle.std.specs.Prelude.{ℕ, zero, suc, ◌+◌, ◌-◌, ◌/◌, ◌%◌, ◌^◌, ◌&&◌, cond, List, [], ◌∷◌, ◌++◌, length, replicate, eqb, ltb, Option, Some, None}
use Rattle.ascii.specs.Text.{front, digit, decimal}

-- the number n read on by the digits of a text: digits and nothing else, or none, and below 2^64
abbrev pub read_on : ℕ → List ℕ → Option ℕ
read_on n s = cond (eqb (front digit s) (length s) && ltb (decimal n s) (2 ^ 64)) (Some (decimal n s)) None

-- a number: one digit or more and nothing else, and below 2^64. Zeros may stand in front
unfoldable pub number : List ℕ → Option ℕ
number s = cond (ltb 0 (length s)) (read_on 0 s) None

-- the decimal digits of n, the highest first and no zero in front, for a number of k digits at most
unfoldable pub decimal_in : ℕ → ℕ → List ℕ
decimal_in zero n = []
decimal_in (suc k) n = cond (ltb n 10) ((48 + n) ∷ []) (decimal_in k (n / 10) ++ ((48 + n % 10) ∷ []))

-- every number below 2^64 has 20 digits at most
abbrev pub decimal_text : ℕ → List ℕ
decimal_text n = decimal_in 20 n

-- a text that ends at the end of a field of this width: spaces (32) in front of it; a longer one as it is
abbrev pub right_aligned : ℕ → List ℕ → List ℕ
right_aligned width text = replicate (width - length text) 32 ++ text
