-- What `replay` prints (FORMAT.md, section 17).
-- Assumes nothing.
use Rattle.std.specs.Prelude.{ℕ, suc, Bool, true, false, cond, List, [], ◌∷◌, ◌++◌, map, take, replicate}
use Rattle.refusal.specs.Refusal as H
use Rattle.layout.specs.declared.BinTable.{BinTable}
use Rattle.bintable.specs.Entry as B
use Rattle.cell.specs.declared.Cell.{Cell}
use Rattle.cell.specs.Item.{blank_cell}
use Rattle.walk.specs.declared.TableData.{TableData}
use Rattle.walk.specs.Walk.{Step, read_cell, read_row, seek, Reply, got_cell, got_row, sought, at_end, refused}
use Rattle.walk.specs.Step.{Selection, all_columns, listed, Opening, open_with, StepResult, cursor_step}
use Rattle.listing.specs.Lines.{cell_line, refused_line, row_line, seek_line, at_end_line, at_line, bad_line}
use Rattle.steps.specs.Split.{lines_of}
use Rattle.steps.specs.Line.{Says, says, choose_all, choose, heap, cell, row, bad}
use Rattle.steps.specs.Line as S
use Rattle.header.specs.Records.{header_of, data_of}

-- ---- a step

-- the step that a line says, with its reading: a row read has a list of so many cells of zeros
pub data Asked : Type 0 where
  step : Step → Asked
  none : Asked

abbrev pub asked : Says → Asked
asked choose_all = none
asked (choose is) = none
asked (heap on) = none
asked (cell how) = step (read_cell how)
asked (row how n) = step (read_row how (replicate n blank_cell))
asked (S.seek r) = step (seek r)
asked bad = none

-- the row that a seek names
abbrev pub row_of : Step → ℕ
row_of (read_cell how) = 0
row_of (read_row how list) = 0
row_of (seek r) = r

-- the lines of an answer, with what the list holds afterwards: a row read's cells stand at its front
abbrev pub answer_lines : Step → Reply → List Cell → List (List ℕ)
answer_lines x (got_cell c) list = cell_line c ∷ []
answer_lines x (got_row k) list = row_line k ∷ map cell_line (take k list)
answer_lines x sought list = seek_line (row_of x) ∷ []
answer_lines x at_end list = at_end_line ∷ []
answer_lines x (refused n p) list = refused_line n p ∷ []

-- the lines of a step: those of its answer, then, after refusals and ends too, the cursor's place and count; and those that come later, from the cursor
-- that the step returned
abbrev pub result_lines : Step → StepResult → (TableData → List (List ℕ)) → List (List ℕ)
result_lines x o later = answer_lines x o.reply o.list ++ (at_line o.cursor ∷ later o.cursor)

-- those of line n: a line that says no step is a bad line, and nothing comes after it
abbrev pub line_by : BinTable → List ℕ → TableData → ℕ → Asked → (TableData → List (List ℕ)) → List (List ℕ)
line_by l a c n (step x) later = result_lines x (cursor_step l a c x) later
line_by l a c n none later = bad_line n ∷ []

-- those of some lines of a file of steps, line n the first of them
unfoldable pub step_lines : BinTable → List ℕ → ℕ → List (List ℕ) → TableData → List (List ℕ)
step_lines l a n [] c = []
step_lines l a n (t ∷ ts) c = line_by l a c n (asked (says t)) (step_lines l a (suc n) ts)

-- ---- the lines before the first step

-- the columns and the heap setting that a cursor is opened with
pub record Settings : Type 0 where
  pub columns : Selection
  pub heap : Bool

abbrev pub defaults : Settings
defaults = record { columns = all_columns; heap = true }

-- whether a line is one of them
abbrev pub is_setting : Says → Bool
is_setting choose_all = true
is_setting (choose is) = true
is_setting (heap on) = true
is_setting (cell how) = false
is_setting (row how n) = false
is_setting (S.seek r) = false
is_setting bad = false

-- what it sets: a repeated one replaces the earlier
abbrev pub set : Settings → Says → Settings
set s choose_all = record { columns = all_columns; heap = s.heap }
set s (choose is) = record { columns = listed is; heap = s.heap }
set s (heap on) = record { columns = s.columns; heap = on }
set s (cell how) = s
set s (row how n) = s
set s (S.seek r) = s
set s bad = s

-- the lines after an opening
abbrev pub opening_lines : Opening → (TableData → List (List ℕ)) → H.Outcome → List (List ℕ)
opening_lines o later H.accepted = later o.cursor
opening_lines o later (H.refused n p) = refused_line n p ∷ []

-- the cursor is opened when those lines are over, line n the first that is none of them
abbrev pub opened : BinTable → List ℕ → Settings → ℕ → List (List ℕ) → List (List ℕ)
opened l a s n ts =
    let o = open_with l a s.columns s.heap in
    opening_lines o (step_lines l a n ts) o.outcome

unfoldable pub setting_lines : BinTable → List ℕ → Settings → ℕ → List (List ℕ) → List (List ℕ)
setting_lines l a s n [] = opened l a s n []
setting_lines l a s n (t ∷ ts) = cond (is_setting (says t)) (setting_lines l a (set s (says t)) (suc n) ts) (opened l a s n (t ∷ ts))

-- ---- the whole

-- if the entry refuses, the steps are not read
abbrev pub replay_by : List ℕ → List ℕ → B.Entry → List (List ℕ)
replay_by a s (B.accepted l) = setting_lines l a defaults 1 (lines_of s)
replay_by a s (B.refused n p) = refused_line n p ∷ []

-- the lines that `replay` prints of a file and the steps s
abbrev pub replay_lines : List ℕ → List ℕ → List (List ℕ)
replay_lines f s = replay_by (data_of f) s (B.entry (header_of f) (data_of f))
