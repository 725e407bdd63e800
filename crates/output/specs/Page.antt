-- A page: as many whole lines as there is room for.
-- Assumes nothing.
use Rattle.std.specs.Prelude.{ℕ, ◌-◌, ◌≤◌, ◌≡◌, cond, List, [], ◌∷◌, ◌++◌, length, leb}

-- the length of a page's buffer: every line of a file of 65,536 bytes has room in it
abbrev pub page_room : ℕ
page_room = 131072

-- lines one after the other
unfoldable pub lines_text : List (List ℕ) → List ℕ
lines_text [] = []
lines_text (t ∷ ts) = t ++ lines_text ts

-- the text of a page
unfoldable pub page_text : ℕ → List (List ℕ) → List ℕ
page_text room [] = []
page_text room (t ∷ ts) = cond (leb (length t) room) (t ++ page_text (room - length t) ts) []

-- the lines that are left
unfoldable pub page_rest : ℕ → List (List ℕ) → List (List ℕ)
page_rest room [] = []
page_rest room (t ∷ ts) = cond (leb (length t) room) (page_rest (room - length t) ts) (t ∷ ts)

-- in a buffer that has the room for any line, an empty page says that no line is left
abbrev pub Whole : ℕ → ℕ → ℕ → List (List ℕ) → Type 0
Whole enough room len ts = enough ≤ room → len ≡ 0 → ts ≡ []
