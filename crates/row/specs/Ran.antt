-- What the calls of a cursor returned and left over a list of steps, by their contracts alone, and the claim of FORMAT.md, section 15, about it.
-- Assumes nothing.
use Rattle.std.specs.Prelude.{ℕ, ◌≡◌, Bool, List, [], ◌∷◌, map, Option, Result, Ok}
use Rattle.layout.specs.declared.BinTable.{BinTable}
use Rattle.refusal.specs.declared.Refusal.{Refusal}
use Rattle.bintable.specs.Entry.{entry, entry_of}
use Rattle.cell.specs.declared.Cell.{Cell}
use Rattle.walk.specs.declared.TableData.{TableData}
use Rattle.walk.specs.declared.Stepped.{Stepped}
use Rattle.walk.specs.declared.How.{How}
use Rattle.walk.specs.Walk.{Step, read_cell, read_row, seek}
use Rattle.walk.specs.Step.{Selection, choice_of, open_with, opening_of, StepResult, with_cursor, cursor_step, plain_walk, cell_result, row_result, seek_result}
use Rattle.walk.specs.Agree.{Counted}
use Rattle.walk.specs.Readings.{plainly, in_results}

-- ---- what the calls ensure. proofs/Ensured shows that each of these is the call's contract

-- bintable::parse
abbrev pub EntryEnsures : List ℕ → List ℕ → Result BinTable Refusal → Type 0
EntryEnsures h a r = entry_of r ≡ entry h a

-- table::open, with all columns, and table::select_fields, with those of a list
abbrev pub OpenEnsures : BinTable → List ℕ → Selection → Bool → Result TableData Refusal → Type 0
OpenEnsures l a sel heap r = opening_of r ≡ open_with l a sel heap

-- table::next
abbrev pub NextEnsures : BinTable → List ℕ → TableData → How → Stepped (Option Cell) → Type 0
NextEnsures l a cursor how r = cell_result r.cursor r.answer ≡ cursor_step l a cursor (read_cell how)

-- row::read_row, with the list before and after it
abbrev pub RowEnsures : BinTable → List ℕ → TableData → How → List Cell → List Cell → Stepped (Option ℕ) → Type 0
RowEnsures l a cursor how list after r = row_result r.cursor r.answer after ≡ cursor_step l a cursor (read_row how list)

-- table::seek_to_row
abbrev pub SeekEnsures : BinTable → List ℕ → TableData → ℕ → Stepped Unit → Type 0
SeekEnsures l a cursor row r = seek_result r.cursor r.answer ≡ cursor_step l a cursor (seek row)

-- row::next, row::next_row and row::seek_to_row, which leave the lent cursor as `moved`
abbrev pub LentNextEnsures : BinTable → List ℕ → TableData → TableData → How → Result (Option Cell) Refusal → Type 0
LentNextEnsures l a cursor moved how r = cell_result moved r ≡ cursor_step l a cursor (read_cell how)

abbrev pub LentRowEnsures : BinTable → List ℕ → TableData → TableData → How → List Cell → List Cell → Result (Option ℕ) Refusal → Type 0
LentRowEnsures l a cursor moved how list after r = row_result moved r after ≡ cursor_step l a cursor (read_row how list)

abbrev pub LentSeekEnsures : BinTable → List ℕ → TableData → TableData → ℕ → Result Unit Refusal → Type 0
LentSeekEnsures l a cursor moved row r = seek_result moved r ≡ cursor_step l a cursor (seek row)

-- ---- runs

-- the steps xs, called one after the other from a cursor on, came to these results. A step is done by value or over the lent cursor. All are on one
-- layout and area, and each gets the cursor that the one before returned or left
pub data Ran (l : BinTable) (a : List ℕ) : TableData → List Step → List StepResult → Type 0 where
  no_steps : {cursor : TableData} → Ran l a cursor [] []
  next : {cursor : TableData} {xs : List Step} {os : List StepResult} (how : How) (r : Stepped (Option Cell))
      → NextEnsures l a cursor how r
      → Ran l a r.cursor xs os
      → Ran l a cursor (read_cell how ∷ xs) (cell_result r.cursor r.answer ∷ os)
  read_row_by_value : {cursor : TableData} {xs : List Step} {os : List StepResult} (how : How) (list after : List Cell) (r : Stepped (Option ℕ))
      → RowEnsures l a cursor how list after r
      → Ran l a r.cursor xs os
      → Ran l a cursor (read_row how list ∷ xs) (row_result r.cursor r.answer after ∷ os)
  seek_to_row : {cursor : TableData} {xs : List Step} {os : List StepResult} (row : ℕ) (r : Stepped Unit)
      → SeekEnsures l a cursor row r
      → Ran l a r.cursor xs os
      → Ran l a cursor (seek row ∷ xs) (seek_result r.cursor r.answer ∷ os)
  lent_next : {cursor : TableData} {xs : List Step} {os : List StepResult} (moved : TableData) (how : How) (r : Result (Option Cell) Refusal)
      → LentNextEnsures l a cursor moved how r
      → Ran l a moved xs os
      → Ran l a cursor (read_cell how ∷ xs) (cell_result moved r ∷ os)
  lent_next_row : {cursor : TableData} {xs : List Step} {os : List StepResult} (moved : TableData) (how : How) (list after : List Cell) (r : Result (Option ℕ) Refusal)
      → LentRowEnsures l a cursor moved how list after r
      → Ran l a moved xs os
      → Ran l a cursor (read_row how list ∷ xs) (row_result moved r after ∷ os)
  lent_seek_to_row : {cursor : TableData} {xs : List Step} {os : List StepResult} (moved : TableData) (row : ℕ) (r : Result Unit Refusal)
      → LentSeekEnsures l a cursor moved row r
      → Ran l a moved xs os
      → Ran l a cursor (seek row ∷ xs) (seek_result moved r ∷ os)

-- what holds of the results os of the steps xs on the layout la and the area a, and os' of the same steps on lb and b
pub record SameRuns (la lb : BinTable) (a b : List ℕ) (sel : Selection) (heap : Bool) (xs : List Step) (os os' : List StepResult) : Type 0 where
  -- answers, refusals, counts, cursors and lists are the same at each step
  pub same : os ≡ os'
  -- they are the plain walk's, which is fed nothing from a cursor
  pub walked_a : os ≡ map (with_cursor (choice_of la sel) heap) (plain_walk la a (choice_of la sel) heap xs)
  pub walked_b : os' ≡ map (with_cursor (choice_of lb sel) heap) (plain_walk lb b (choice_of lb sel) heap xs)
  -- and they are what the plain walk gives for the same steps read plainly, each in the reading of its own step
  pub read_a : os ≡ in_results la xs (map (with_cursor (choice_of la sel) heap) (plain_walk la a (choice_of la sel) heap (map plainly xs)))
  pub read_b : os' ≡ in_results lb xs (map (with_cursor (choice_of lb sel) heap) (plain_walk lb b (choice_of lb sel) heap (map plainly xs)))
  -- after each step the count is the cells handed out so far, up to the stop
  pub counted_a : Counted 0 xs os
  pub counted_b : Counted 0 xs os'

-- the layouts la and lb that the entry returned with a and with b, for one header or for two of which the one may become the
-- other, and what opening returned on each
pub record Isolated (la lb : BinTable) (a b : List ℕ) (sel : Selection) (heap : Bool) (oa ob : Result TableData Refusal) : Type 0 where
  -- the layouts are the same
  pub layouts : la ≡ lb
  -- both are opened, with the same cursor, or both are refused alike
  pub openings : opening_of oa ≡ opening_of ob
  pub both_opened : (cursor : TableData) → oa ≡ Ok cursor → ob ≡ Ok cursor
  -- where they are opened, whatever the calls returned and left for a list of steps
  pub runs : (cursor : TableData) → oa ≡ Ok cursor → (xs : List Step) (os os' : List StepResult) → Ran la a cursor xs os → Ran lb b cursor xs os'
      → SameRuns la lb a b sel heap xs os os'
