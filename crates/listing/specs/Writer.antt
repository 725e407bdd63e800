-- A line that is put together piece by piece, in memory of a fixed size.
-- Assumes nothing.
use Rattle.std.specs.Prelude.{ℕ, ◌+◌, cond, List, ◌++◌, length, leb}

-- the most bytes of a line
abbrev pub room : ℕ
room = 130

-- a line with a text at its end where there is room for all of it; without room it is as it was
unfoldable pub appended : List ℕ → List ℕ → List ℕ
appended line text = cond (leb (length line + length text) room) (line ++ text) line
