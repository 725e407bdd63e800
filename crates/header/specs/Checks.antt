-- The first three checks of a header (FORMAT.md, section 5), in their order, and the index of its used names.
-- Assumes nothing.
use Rattle.std.specs.Prelude.{ℕ, ◌%◌, List, [], map, Bool, not, ◌||◌, cond, length, get_or, eqb, ltb, Option, Some, None}
use Rattle.refusal.specs.Refusal.{Outcome, accepted, refused, before}
use Rattle.keyword.specs.Names.{slot_names, position}
use Rattle.header.specs.declared.Entry.{Entry}
use Rattle.header.specs.Records.{records, has_end, names, second, repeated}

-- a header of 0 bytes, above 57,600 or no multiple of 2,880
unfoldable pub bad_length : List ℕ → Bool
bad_length h = eqb (length h) 0 || (ltb 57600 (length h) || not (eqb (length h % 2880) 0))

-- 1: its length
unfoldable pub check1 : List ℕ → Outcome
check1 h = cond (bad_length h) (refused 1 0) accepted

-- 2: no END
unfoldable pub check2 : List ℕ → Outcome
check2 h = cond (has_end (records h)) accepted (refused 2 0)

-- the refusal for the first second one
abbrev pub repetition : Option ℕ → Outcome
repetition (Some k) = refused 3 k
repetition None = accepted

-- 3: a name that must not stand twice does so with a value before END; the record of the first second one
unfoldable pub check3 : List ℕ → Outcome
check3 h = repetition (repeated (names h))

-- all three, in this order
unfoldable pub checked : List ℕ → Outcome
checked h = before (check1 h) (before (check2 h) (check3 h))

-- the names that are read: none where check 1 or 2 refuses
unfoldable pub names_read : List ℕ → List (List ℕ)
names_read h = cond (bad_length h) [] (cond (has_end (records h)) (names h) [])

-- the record of a used name (section 4): the first that has it; and the second
abbrev pub record_of : List ℕ → List ℕ → Option ℕ
record_of h n = position n (names_read h)

abbrev pub second_of : List ℕ → List ℕ → Option ℕ
second_of h n = second n (names_read h)

-- the records of a used name, and those of a name that no record has
abbrev pub records_of : List ℕ → List ℕ → Entry
records_of h n = record { first = record_of h n; second = second_of h n }

abbrev pub no_entry : Entry
no_entry = record { first = None; second = None }

-- an index: for each slot the records of its name
unfoldable pub index_by : List ℕ → List Entry
index_by h = map (records_of h) slot_names

-- the first record that an index gives for a slot, and the second
abbrev pub first_at : List Entry → ℕ → Option ℕ
first_at index s = (get_or index s no_entry).first

abbrev pub second_at : List Entry → ℕ → Option ℕ
second_at index s = (get_or index s no_entry).second
