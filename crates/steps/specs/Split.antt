-- The lines of a file of steps, and the parts of a line (FORMAT.md, section 17).
-- Assumes nothing.
use Rattle.std.specs.Prelude.{ℕ, suc, not, cond, List, [], ◌∷◌, take, drop, eqb}
use Rattle.ascii.specs.Text.{front}

-- a byte in front of the first part; a part of its own where there is none
abbrev pub prepend : ℕ → List (List ℕ) → List (List ℕ)
prepend b [] = (b ∷ []) ∷ []
prepend b (p ∷ ps) = (b ∷ p) ∷ ps

-- the lines of a text: each ends in a line feed (10), which the last may lack
unfoldable pub lines_of : List ℕ → List (List ℕ)
lines_of [] = []
lines_of (b ∷ bs) = cond (eqb b 10) ([] ∷ lines_of bs) (prepend b (lines_of bs))

-- the parts of a text between its spaces (32): one more than there are spaces
unfoldable pub parts : List ℕ → List (List ℕ)
parts [] = [] ∷ []
parts (b ∷ bs) = cond (eqb b 32) ([] ∷ parts bs) (prepend b (parts bs))

-- how many bytes stand before the first byte e, all of them where there is none
abbrev pub before : ℕ → List ℕ → ℕ
before e s = front (λ (b : ℕ). not (eqb b e)) s

-- the line that begins at a place, without its line feed
abbrev pub line_at : List ℕ → ℕ → List ℕ
line_at s at = take (before 10 (drop at s)) (drop at s)

-- how many line feeds there are
unfoldable pub line_feeds : List ℕ → ℕ
line_feeds [] = 0
line_feeds (b ∷ bs) = cond (eqb b 10) (suc (line_feeds bs)) (line_feeds bs)
