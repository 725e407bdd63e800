-- The settings as the private functions keep them, and what they stand for (FORMAT.md, section 17).
-- Assumes nothing.
use Rattle.std.specs.Prelude.{ℕ, ◌+◌, ◌≡◌, cond, List, length, take, drop, ltb, Option, Some, None}
use Rattle.layout.specs.declared.BinTable.{BinTable}
use Rattle.walk.specs.Step.{Selection, all_columns, listed}
use Rattle.steps.specs.declared.Command.{Command}
use Rattle.steps.specs.declared.Command.TheVariants as C
use Rattle.steps.specs.Split.{lines_of, line_at, line_feeds}
use Rattle.steps.specs.Line.{says, indexes_of, command_of}
use Rattle.output.specs.Replay as R
use Rattle.output.specs.declared.settings.Settings.{Settings}

-- the columns: all, or those of the line that begins at a place of the steps s
abbrev pub columns_in : List ℕ → Option ℕ → Selection
columns_in s None = all_columns
columns_in s (Some at) = listed (indexes_of (says (line_at s at)))

abbrev pub settings_in : List ℕ → Settings → R.Settings
settings_in s t = record { columns = columns_in s t.choose; heap = t.heap }

-- what a command changes, of a line that is n bytes long
abbrev pub changed : Settings → Option Command → ℕ → Option Settings
changed t (Some C.ChooseAll) n = Some (record { choose = None; heap = t.heap; at = t.at + n + 1 })
changed t (Some C.Choose) n = Some (record { choose = Some t.at; heap = t.heap; at = t.at + n + 1 })
changed t (Some (C.Heap on)) n = Some (record { choose = t.choose; heap = on; at = t.at + n + 1 })
changed t (Some (C.Cell how)) n = None
changed t (Some (C.Row how m)) n = None
changed t (Some (C.Seek r)) n = None
changed t None n = None

-- the settings after the next line
abbrev pub next_settings : List ℕ → Settings → Option Settings
next_settings s t =
    let line = line_at s t.at in
    cond (ltb t.at (length s)) (changed t (command_of (says line)) (length line)) None

-- the settings t of the steps s, with the place after their lines, stand for the lines before the first step, whatever the table
abbrev pub Read : List ℕ → Settings → Type 0
Read s t =
    (l : BinTable) (a : List ℕ) → R.opened l a (settings_in s t) (line_feeds (take t.at s) + 1) (lines_of (drop t.at s)) ≡ R.setting_lines l a R.defaults 1 (lines_of s)

-- the same while they are read: what is still to come
abbrev pub Reading : List ℕ → Settings → Type 0
Reading s t =
    (l : BinTable) (a : List ℕ) → R.setting_lines l a (settings_in s t) (line_feeds (take t.at s) + 1) (lines_of (drop t.at s)) ≡ R.setting_lines l a R.defaults 1 (lines_of s)
