-- The cursor's calls, as their contracts state them, for any layout, data area and cursor (FORMAT.md, section 14). What does not belong
-- together gets a 10. Any other cursor does what the plain walk does from the choice, heap setting, place and count that it holds.
-- Assumes nothing.
use Rattle.std.specs.Prelude.{ℕ, zero, suc, ◌+◌, ◌-◌, ◌*◌, ◌^◌, Bool, true, false, cond, ◌&&◌, List, [], ◌∷◌, length, leb, ltb, Option, Some, None, Result, Ok, Err}
use Rattle.refusal.specs.Refusal as H
use Rattle.tform.specs.Width.{among}
use Rattle.layout.specs.declared.BinTable.{BinTable}
use Rattle.layout.specs.Layout.{data_size, layout_ok}
use Rattle.refusal.specs.declared.Refusal.{Refusal}
use Rattle.refusal.specs.Refusal.{number_of, place_of}
use Rattle.cell.specs.declared.Cell.{Cell}
use Rattle.walk.specs.declared.TableData.{TableData}
use Rattle.walk.specs.declared.Entry.{Entry}
use Rattle.walk.specs.Plain.{row_entries}
use Rattle.walk.specs.Walk.{Step, lent, State, start, Outcome, Reply, got_cell, got_row, sought, at_end, refused, place_ok, entries_left, walk_step, walk}

-- ---- what belongs together

-- the layout keeps every limit and sum, and the data area is long enough
unfoldable pub fits : BinTable → List ℕ → Bool
fits l a = layout_ok l && leb (data_size l) (length a)

-- the request's term "belongs", of a choice: it is one or more of the layout's columns
unfoldable pub choice_ok : BinTable → ℕ → Bool
choice_ok l choice = ltb 0 choice && ltb choice (2 ^ l.tfields)

unfoldable pub belongs : BinTable → List ℕ → TableData → Bool
belongs l a c =
    fits l a && (choice_ok l c.choice && place_ok (row_entries l a c.choice c.heap) l.naxis2 c.row c.passed)

-- ---- the cursor

abbrev pub state_of : TableData → State
state_of c = record { row = c.row; passed = c.passed; count = c.count }

abbrev pub cursor_at : ℕ → Bool → State → TableData
cursor_at choice heap s = record { choice = choice; heap = heap; row = s.row; passed = s.passed; count = s.count }

-- the entries that are left from a cursor on, its own row's and those of all later rows
abbrev pub cursor_left : BinTable → List ℕ → TableData → List Entry
cursor_left l a c = entries_left (row_entries l a c.choice c.heap) l.naxis2 (l.naxis2 - c.row) c.row c.passed

-- the cursor beside a refusal of opening
abbrev pub no_cursor : TableData
no_cursor = cursor_at 0 false start

-- ---- opening

-- all columns, or those of a lent list of indexes
pub data Selection : Type 0 where
  all_columns : Selection
  listed : List ℕ → Selection

abbrev pub wanted : Selection → ℕ → Bool
wanted all_columns c = true
wanted (listed is) c = among c is

-- the choice of those of n columns from column c on that are wanted, column c being bit 0
unfoldable pub choice_from : Selection → ℕ → ℕ → ℕ
choice_from sel c zero = 0
choice_from sel c (suc n) = cond (wanted sel c) 1 0 + 2 * choice_from sel (suc c) n

-- the request's term "choice", made from a selection: an index that the layout lacks is dropped, and a repeated one counts once
abbrev pub choice_of : BinTable → Selection → ℕ
choice_of l sel = choice_from sel 0 l.tfields

-- what opening comes to: an outcome, and the cursor beside it
pub record Opening : Type 0 where
  pub outcome : H.Outcome
  pub cursor : TableData

abbrev pub opened : TableData → Opening
opened c = record { outcome = H.accepted; cursor = c }

abbrev pub not_opened : ℕ → Opening
not_opened n = record { outcome = H.refused n 0; cursor = no_cursor }

unfoldable pub open_with : BinTable → List ℕ → Selection → Bool → Opening
open_with l a sel heap =
    cond (fits l a) (cond (choice_ok l (choice_of l sel)) (opened (cursor_at (choice_of l sel) heap start)) (not_opened 11)) (not_opened 10)

-- what the code's opening returned: beside a refusal stands the empty cursor
abbrev pub opening_of : Result TableData Refusal → Opening
opening_of (Ok c) = opened c
opening_of (Err r) = record { outcome = H.refused (number_of r) (place_of r); cursor = no_cursor }

-- ---- a step

-- the result of a cursor's step: its answer, the cursor after it, and what the list lent holds afterwards
pub record StepResult : Type 0 where
  pub reply : Reply
  pub cursor : TableData
  pub list : List Cell

-- an outcome of the walk as the result of a cursor with this choice and heap setting
abbrev pub with_cursor : ℕ → Bool → Outcome → StepResult
with_cursor choice heap o = record { reply = o.reply; cursor = cursor_at choice heap o.state; list = o.list }

unfoldable pub cursor_step : BinTable → List ℕ → TableData → Step → StepResult
cursor_step l a c x =
    cond (belongs l a c)
    (with_cursor c.choice c.heap (walk_step l (row_entries l a c.choice c.heap) l.naxis2 (state_of c) x))
    (record { reply = refused 10 0; cursor = c; list = lent x })

-- a list of steps: each gets the cursor that the last one returned or left
unfoldable pub run : BinTable → List ℕ → TableData → List Step → List StepResult
run l a c [] = []
run l a c (x ∷ xs) = let o = cursor_step l a c x in o ∷ run l a o.cursor xs

-- the request's term "plain walk", from the start: it is fed the layout, data area, choice and heap setting, and each step's
-- arguments, and nothing from a cursor
abbrev pub plain_walk : BinTable → List ℕ → ℕ → Bool → List Step → List Outcome
plain_walk l a choice heap xs = walk l (row_entries l a choice heap) l.naxis2 start xs

-- ---- what the code's step returned

-- a cell read: a cell, none at the end, or a refusal
abbrev pub cell_reply : Result (Option Cell) Refusal → Reply
cell_reply (Ok (Some c)) = got_cell c
cell_reply (Ok None) = at_end
cell_reply (Err r) = refused (number_of r) (place_of r)

-- a row read: how many cells it stored, none at the end, or a refusal
abbrev pub row_reply : Result (Option ℕ) Refusal → Reply
row_reply (Ok (Some n)) = got_row n
row_reply (Ok None) = at_end
row_reply (Err r) = refused (number_of r) (place_of r)

-- a seek: it was sought, or a refusal
abbrev pub seek_reply : Result Unit Refusal → Reply
seek_reply (Ok x) = sought
seek_reply (Err r) = refused (number_of r) (place_of r)

-- with the cursor after it, and what the list lent holds afterwards, nothing where none is lent
abbrev pub cell_result : TableData → Result (Option Cell) Refusal → StepResult
cell_result c r = record { reply = cell_reply r; cursor = c; list = [] }

abbrev pub row_result : TableData → Result (Option ℕ) Refusal → List Cell → StepResult
row_result c r list = record { reply = row_reply r; cursor = c; list = list }

abbrev pub seek_result : TableData → Result Unit Refusal → StepResult
seek_result c r = record { reply = seek_reply r; cursor = c; list = [] }
