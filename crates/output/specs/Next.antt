-- What the next line is after an answer, as the code has it.
-- Assumes nothing.
use Rattle.std.specs.Prelude.{ℕ, List, Option, Some, None, Result, Ok, Err}
use Rattle.refusal.specs.declared.Refusal.{Refusal}
use Rattle.cell.specs.declared.Cell.{Cell}
use Rattle.walk.specs.declared.TableData.{TableData}
use Rattle.walk.specs.declared.How.{How}
use Rattle.listing.specs.declared.Line.{Line}
use Rattle.listing.specs.declared.Line.TheVariants as L
use Rattle.output.specs.declared.Parts.{Parts}
use Rattle.output.specs.declared.State.{State}
use Rattle.output.specs.declared.State.TheVariants as S
use Rattle.output.specs.declared.Next.{Next}
use Rattle.output.specs.State.{left, next_lines}

-- what is left to print of a source in parts, and the lines of a next one
abbrev pub left_in : Parts → State → List (List ℕ)
left_in s t = left s.header.now s.layout.now s.area.now s.steps.now t

abbrev pub lines_by : Parts → Option Next → List (List ℕ)
lines_by s n = next_lines s.header.now s.layout.now s.area.now s.steps.now n

-- the line of a cell read of `cells`, with the cursor d after it
abbrev pub cells_next : Result (Option Cell) Refusal → TableData → Next
cells_next (Ok (Some x)) d = record { line = L.Cell x; state = S.Cells d }
cells_next (Ok None) d = record { line = L.End d.count; state = S.Done }
cells_next (Err q) d = record { line = L.Refused q; state = S.Done }

-- of `replay`: the line of a step's answer, with cursor d and the later steps from place `at` on
abbrev pub answered : Line → ℕ → TableData → Next
answered x at d = record { line = x; state = S.At at d }

-- the line of a cell read
abbrev pub cell_next : Result (Option Cell) Refusal → ℕ → TableData → Next
cell_next (Ok (Some x)) at d = answered (L.Cell x) at d
cell_next (Ok None) at d = answered L.AtEnd at d
cell_next (Err q) at d = answered (L.Refused q) at d

-- that of a seek of this row
abbrev pub seek_next : Result Unit Refusal → ℕ → ℕ → TableData → Next
seek_next (Ok x) row at d = answered (L.Seek row) at d
seek_next (Err q) row at d = answered (L.Refused q) at d

-- that of a row read by cursor c into a list of n cells, in a reading: after the count come the cells of the list
abbrev pub row_next : Result (Option ℕ) Refusal → ℕ → TableData → How → ℕ → TableData → Next
row_next (Ok (Some k)) at c how n d = record { line = L.Row k; state = S.Listed at c how n 0 }
row_next (Ok None) at c how n d = answered L.AtEnd at d
row_next (Err q) at c how n d = answered (L.Refused q) at d
