-- The place of the next entry, as the search for it answers.
-- Assumes nothing.
use Rattle.std.specs.Prelude.{ℕ, List, length, Option, Some, None}
use Rattle.walk.specs.declared.Entry.{Entry}
use Rattle.walk.specs.Walk.{Next, entry_at, no_entry}
use Rattle.table.specs.declared.rows.NextPlace.{NextPlace}

-- the place and the number of entries of its row
abbrev pub next_place : (ℕ → List Entry) → Next → Option NextPlace
next_place rows (entry_at r p e) = Some (record { row = r; passed = p; size = length (rows r) })
next_place rows no_entry = None
