-- The list of an owner before it is lent, and the row read into it.
-- Assumes nothing.
use Rattle.std.specs.Prelude.{ℕ, min, List, replicate}
use Rattle.layout.specs.declared.BinTable.{BinTable}
use Rattle.cell.specs.declared.Cell.{Cell}
use Rattle.walk.specs.declared.TableData.{TableData}
use Rattle.walk.specs.declared.How.{How}
use Rattle.walk.specs.Walk.{read_row}
use Rattle.walk.specs.Step.{StepResult, cursor_step}

-- the most cells that it takes
abbrev pub list_limit : ℕ
list_limit = 512

-- n times one cell, up to the limit
abbrev pub own_list : Cell → ℕ → List Cell
own_list filler n = replicate (min n list_limit) filler

-- a row read into that list
abbrev pub own_read : BinTable → List ℕ → TableData → How → Cell → ℕ → StepResult
own_read l a cursor how filler n = cursor_step l a cursor (read_row how (own_list filler n))
