-- What the two functions of the example return.
-- Assumes nothing.
use Rattle.std.specs.Prelude.{ℕ, true, List, [], ◌∷◌, Option, Some, None}
use Rattle.ascii.specs.Text.{bytes}
use Rattle.refusal.specs.Refusal as H
use Rattle.layout.specs.declared.BinTable.{BinTable}
use Rattle.layout.specs.Names.{find_name}
use Rattle.bintable.specs.Entry as B
use Rattle.cell.specs.Item.{blank_cell}
use Rattle.walk.specs.declared.TableData.{TableData}
use Rattle.walk.specs.Scaled.{plain}
use Rattle.walk.specs.Walk.{read_cell, Reply, refused}
use Rattle.walk.specs.Step.{all_columns, listed, open_with, StepResult, cursor_step}
use Rattle.row.specs.Owned.{own_read}

-- the first cell read from a cursor on, by what opening comes to
abbrev pub opened_weight : BinTable → List ℕ → H.Outcome → TableData → Reply
opened_weight l a H.accepted cursor = (cursor_step l a cursor (read_cell plain)).reply
opened_weight l a (H.refused n p) cursor = refused n p

-- of the column that was found
abbrev pub weight_of : BinTable → List ℕ → Option ℕ → Reply
weight_of l a (Some c) = let o = open_with l a (listed (c ∷ [])) true in opened_weight l a o.outcome o.cursor
weight_of l a None = refused 11 0

-- by what the entry answers
abbrev pub weight_by : List ℕ → List ℕ → B.Entry → Reply
weight_by h a (B.accepted l) = weight_of l a (find_name h l (bytes "WEIGHT"))
weight_by h a (B.refused n p) = refused n p

abbrev pub first_weight : List ℕ → List ℕ → Reply
first_weight h a = weight_by h a (B.entry h a)

-- the first row, read into a list of 512 blank cells. Beside a refused table stands the empty layout, and then the row read is refused
abbrev pub first_row : List ℕ → List ℕ → StepResult
first_row h a = let l = B.layout_in (B.entry h a) in own_read l a (open_with l a all_columns true).cursor plain blank_cell 512
