-- What is left to print in each state of the two programs.
-- Assumes nothing.
use Rattle.std.specs.Prelude.{ℕ, ◌≡◌, ◌+◌, ◌-◌, cond, List, [], ◌∷◌, ◌++◌, map, take, drop, Option, Some, None}
use Rattle.layout.specs.declared.BinTable.{BinTable}
use Rattle.refusal.specs.Refusal.{number_of, place_of}
use Rattle.bintable.specs.Entry as B
use Rattle.cell.specs.Item.{blank_cell}
use Rattle.walk.specs.declared.TableData.{TableData}
use Rattle.walk.specs.Readings.{stored_by}
use Rattle.walk.specs.Step.{belongs, cursor_left, StepResult}
use Rattle.row.specs.Owned.{own_read}
use Rattle.listing.specs.Lines.{cell_line, refused_line, at_line, line_text}
use Rattle.steps.specs.Split.{lines_of, line_feeds}
use Rattle.output.specs.declared.State.{State}
use Rattle.output.specs.declared.State.TheVariants as S
use Rattle.output.specs.declared.Next.{Next}
use Rattle.output.specs.declared.Source.{Source}
use Rattle.header.specs.Records.{header_of, data_of}
use Rattle.output.specs.Cells.{entry_lines, column_lines, after_columns, entry_output}
use Rattle.output.specs.Replay.{step_lines}

-- the steps from place `at` of their file on. The number of a line is one more than the line feeds before it
abbrev pub steps_from : BinTable → List ℕ → List ℕ → ℕ → TableData → List (List ℕ)
steps_from l a s at = step_lines l a (line_feeds (take at s) + 1) (lines_of (drop at s))

-- the cells that a row read stored, from cell k on, as lines, and what comes after them
abbrev pub listed_from : ℕ → StepResult → (TableData → List (List ℕ)) → List (List ℕ)
listed_from k o later =
    map cell_line (drop k (take (stored_by o.reply) o.list)) ++ (at_line o.cursor ∷ later o.cursor)

-- a header, a layout, a data area and a file of steps
module _ (h : List ℕ) (l : BinTable) (a s : List ℕ) where
  abbrev pub left : State → List (List ℕ)
  left S.Table = entry_output h a (B.accepted l)
  left (S.Column c) = column_lines h l c (l.tfields - c) ++ after_columns l a
  left (S.Cells c) = cond (belongs l a c) (entry_lines c.count (cursor_left l a c)) (refused_line 10 0 ∷ [])
  left (S.Step at c) = steps_from l a s at c
  left (S.At at c) = at_line c ∷ steps_from l a s at c
  left (S.Listed at c how n k) = listed_from k (own_read l a c how blank_cell n) (steps_from l a s at)
  left (S.Refused r) = refused_line (number_of r) (place_of r) ∷ []
  left S.Done = []

  -- the line that is next, and what is left after it
  abbrev pub next_lines : Option Next → List (List ℕ)
  next_lines (Some n) = line_text h l n.line ∷ left n.state
  next_lines None = []

-- what is left to print of a file
abbrev pub file_left : List ℕ → BinTable → List ℕ → State → List (List ℕ)
file_left f l s t = left (header_of f) l (data_of f) s t

-- the same, of a source
abbrev pub left_of : Source → State → List (List ℕ)
left_of x t = file_left x.file.now x.layout x.steps.now t

-- nothing is left of what `cells` prints of a file
abbrev pub all_printed : List ℕ → State → Type 0
all_printed f t = file_left f (B.layout_in (B.entry (header_of f) (data_of f))) [] t ≡ []
