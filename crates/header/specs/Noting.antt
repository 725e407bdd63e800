-- What the pass over the records keeps of each, which private functions alone cite: a record goes to the place of its
-- name, as its first, or as its second behind a first.
-- Assumes nothing.
use Rattle.std.specs.Prelude.{ℕ, List, get_or, set, Option, Some, None}
use Rattle.std.specs.Option.{option_or, option_and}
use Rattle.header.specs.declared.Entry.{Entry}

-- what stands at a place, or `none`
abbrev pub entry_at : {A : Type 0} → A → List A → Option ℕ → A
entry_at none entries (Some s) = get_or entries s none
entry_at none entries None = none

-- the entries with a new one at a place
abbrev pub stored : {A : Type 0} → List A → Option ℕ → A → List A
stored entries (Some s) entry = set entries s entry
stored entries None entry = entries

-- the record that is kept: the old one, or the new one where there is none
abbrev pub kept : Option ℕ → ℕ → Option ℕ
kept old k = option_or old (Some k)

-- the same of a second record, which needs a first one
abbrev pub kept_after : Option ℕ → Option ℕ → ℕ → Option ℕ
kept_after first old k = option_or old (option_and first (Some k))

-- the records of a name after one record more
abbrev pub noted : Entry → ℕ → Entry
noted old k = record { first = kept old.first k; second = kept_after old.first old.second k }
