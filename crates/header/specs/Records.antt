-- The records of a header up to END and the names that they hold (FORMAT.md, sections 2 and 4; the standard, 4.4.1), the first repeated name
-- (section 5), and where a header ends in a file (section 6).
-- Assumes nothing.
use Rattle.std.specs.Prelude.{ℕ, ◌+◌, ◌*◌, ◌/◌, min, List, [], ◌∷◌, ◌++◌, map, Bool, true, false, ◌&&◌, ◌||◌, cond, length, take, drop, Option, Some, None}
use Rattle.ascii.specs.Text.{same}
use Rattle.card.specs.Record.{card_at, is_end, name_of}
use Rattle.keyword.specs.Names.{range, once_names, later, position}

-- the whole records of a header, in order
unfoldable pub records : List ℕ → List (List ℕ)
records h = map (card_at h) (range 0 (length h / 80))

-- whether one of them is END
unfoldable pub has_end : List (List ℕ) → Bool
has_end [] = false
has_end (r ∷ rs) = is_end r || has_end rs

-- the records before END; what follows it is not looked at
unfoldable pub before_end : List (List ℕ) → List (List ℕ)
before_end [] = []
before_end (r ∷ rs) = cond (is_end r) [] (r ∷ before_end rs)

-- the names of the records before END, one for each record; a record that holds no value has the empty one, which is no used name
unfoldable pub names : List ℕ → List (List ℕ)
names h = map name_of (before_end (records h))

-- the second place of a name in a list of names
unfoldable pub second : List ℕ → List (List ℕ) → Option ℕ
second n [] = None
second n (x ∷ xs) = later (cond (same n x) (position n xs) (second n xs))

-- whether there is a place
abbrev pub found : Option ℕ → Bool
found (Some k) = true
found None = false

-- the first name that must not stand twice and stands in an earlier record, as the number of its record; `seen` are the names of the records before
-- the list
unfoldable pub repeated_after : List (List ℕ) → List (List ℕ) → Option ℕ
repeated_after seen [] = None
repeated_after seen (n ∷ ns) = cond (found (position n once_names) && found (position n seen)) (Some (length seen)) (repeated_after (seen ++ (n ∷ [])) ns)

abbrev pub repeated : List (List ℕ) → Option ℕ
repeated ns = repeated_after [] ns

-- where a header ends in the bytes of a file: with the 2,880-byte block, 36 records, that has END, whose number is that of the records before it; at the
-- latest, and if there is no END, with the file
unfoldable pub header_len : List ℕ → ℕ
header_len f = cond (has_end (records f)) (min (length f) ((length (before_end (records f)) / 36 + 1) * 2880)) (length f)

-- so a file has a header, and the data after it
abbrev pub header_of : List ℕ → List ℕ
header_of f = take (header_len f) f

abbrev pub data_of : List ℕ → List ℕ
data_of f = drop (header_len f) f
