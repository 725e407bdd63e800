-- The numbers of a line (FORMAT.md, section 17).
-- Assumes nothing.
use Rattle.std.specs.Prelude.{ℕ, Bool, true, false, List, [], ◌∷◌, Option, Some, None}
use Rattle.ascii.specs.Number.{number}

-- some numbers, or a part that is none
pub data Numbers : Type 0 where
  all_of : List ℕ → Numbers
  not_all : Numbers

abbrev pub with_first : Option ℕ → Numbers → Numbers
with_first (Some n) (all_of ns) = all_of (n ∷ ns)
with_first (Some n) not_all = not_all
with_first None r = not_all

-- the numbers that some texts are
unfoldable pub numbers : List (List ℕ) → Numbers
numbers [] = all_of []
numbers (p ∷ ps) = with_first (number p) (numbers ps)

-- whether they are all numbers
abbrev pub are_numbers : Numbers → Bool
are_numbers (all_of ns) = true
are_numbers not_all = false
