-- What may come after a value, and where a string ends (FORMAT.md, section 3; the standard, 4.1.2.3 and 4.2.1.1).
-- Assumes nothing.
use Rattle.std.specs.Prelude.{ℕ, suc, List, [], ◌∷◌, Bool, true, cond, drop, eqb}
use Rattle.ascii.specs.Text.{front, space}

-- nothing, or a comment, which begins with / (47)
abbrev pub comment : List ℕ → Bool
comment [] = true
comment (b ∷ bs) = eqb b 47

-- what may come after a value: spaces only, or spaces or none and a comment
unfoldable pub follows : List ℕ → Bool
follows s = comment (drop (front space s) s)

-- where the quote (39) stands that closes a string, counted from the byte after its opening quote. Two quotes, taken from the
-- front, stand for one and close nothing. The length of the list if none closes it
unfoldable pub closing : List ℕ → ℕ
closing [] = 0
closing (b ∷ []) = cond (eqb b 39) 0 1
closing (b ∷ c ∷ cs) = cond (eqb b 39) (cond (eqb c 39) (suc (suc (closing cs))) 0) (suc (closing (c ∷ cs)))
