-- A text in a lent buffer.
-- Assumes nothing.
use Rattle.std.specs.Prelude.{ℕ, ◌+◌, cond, List, ◌++◌, length, take, drop, leb, Option, Some, None}

-- the buffer with a text from place `at` on, the rest of it as it was
unfoldable pub put_in : List ℕ → ℕ → List ℕ → List ℕ
put_in out at text = take at out ++ (text ++ drop (at + length text) out)

-- the same where there is room for the text; without room all of the buffer is as it was
unfoldable pub written : List ℕ → ℕ → List ℕ → List ℕ
written out at text = cond (leb (at + length text) (length out)) (put_in out at text) out

-- the place after the text, where there is room for it
unfoldable pub written_to : List ℕ → ℕ → List ℕ → Option ℕ
written_to out at text = cond (leb (at + length text) (length out)) (Some (at + length text)) None

-- the same place as a number: without room the place where the text would begin
unfoldable pub place_after : List ℕ → ℕ → List ℕ → ℕ
place_after out at text = cond (leb (at + length text) (length out)) (at + length text) at
