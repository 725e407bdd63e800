-- A narrow choice beside all columns, about the code: what cell reads and row reads of two cursors that were opened
-- on one table returned and left, by their contracts alone.
-- Assumes nothing.
use Rattle.std.specs.Prelude.{Option, Some, Result, Ok}
use Prim.Native.Nat.{ℕ, ◌≤◌, ◌<◌}
use mathlib.Core.Path.{◌≡◌, sym, ap, ◌∙◌}
use mathlib.Core.Bool.{Bool, true}
use mathlib.Core.List.{List, ◌++◌, map}
use lib.ListN.{length, take, drop, replicate}
use Rattle.refusal.specs.declared.Refusal.{Refusal}
use Rattle.layout.specs.declared.BinTable.{BinTable}
use Rattle.bintable.proofs.Kept.{parsed_entry}
use Rattle.cell.specs.declared.Cell.{Cell}
use Rattle.walk.specs.declared.TableData.{TableData}
use Rattle.walk.specs.declared.How.{How}
use Rattle.walk.specs.Walk.{read_cell, refused}
use Rattle.walk.specs.Step.{Selection, all_columns, wanted, choice_of, cursor_at, StepResult, row_reply}
use Rattle.walk.specs.Narrow.{struck, struck_cells, cells_in, cells_before_13, behind_13}
use Rattle.walk.proofs.Answers.{row_reply_decides}
use Rattle.walk.proofs.NarrowReads.{table_entries, narrow_cells}
use Rattle.walk.proofs.NarrowRows.{at_row, narrow_row, narrow_row_13}
use Rattle.row.specs.Ran.{Ran, EntryEnsures, OpenEnsures, LentRowEnsures}
use Rattle.row.proofs.Runs.{ran_run}

-- the cells that the calls of a run answered
abbrev pub cells_of : List StepResult → List Cell
cells_of os = cells_in (map (λ (o : StepResult). o.reply) os)

module _ (h a : List ℕ) (l : BinTable) (sel : Selection) (heap : Bool) (c d : TableData)
    (entered : EntryEnsures h a (Ok l)) (opened_some : OpenEnsures l a sel heap (Ok c))
    (opened_all : OpenEnsures l a all_columns heap (Ok d)) (how : How) where
  -- cell reads of both cursors, of each at least as many as it has entries
  pub narrow_run : (m n : ℕ) (os os' : List StepResult)
      → Ran l a c (replicate m (read_cell how)) os → Ran l a d (replicate n (read_cell how)) os'
      → let keep = wanted sel in let full = table_entries l a all_columns heap how in
      length (table_entries l a sel heap how) ≤ m → length full ≤ n
      → cells_of os ≡ struck_cells keep (cells_of os') ++ cells_before_13 (struck keep (behind_13 keep full))
  narrow_run m n os os' some all enough enough' =
      let taken = parsed_entry h a l entered in
      rw (ran_run l a some, ran_run l a all)
      (narrow_cells h a l taken sel heap c d (sym opened_some) (sym opened_all) how m n enough enough')

  -- a row read of each at the start of one row, over a lent cursor, whatever was read before. That of the read by
  -- value is the same, with the two parts of what it returned for the cursor afterwards and the answer
  pub narrow_row_run : (r : ℕ) → r < l.naxis2
      → (i j : ℕ) (u v after_u after_v : List Cell) (moved_all moved : TableData)
      (all some : Result (Option ℕ) Refusal) (n : ℕ)
      → LentRowEnsures l a (cursor_at (choice_of l all_columns) heap (at_row r i)) moved_all how u after_u all
      → LentRowEnsures l a (cursor_at (choice_of l sel) heap (at_row r j)) moved how v after_v some
      → all ≡ Ok (Some n)
      → let xs = take n after_u in let ys = struck_cells (wanted sel) xs in
      length ys ≤ length v
      → (length xs ≡ n) × (some ≡ Ok (Some (length ys))) × (after_v ≡ ys ++ drop (length ys) v)
  narrow_row_run r low i j u v after_u after_v moved_all moved all some n e e' answer room =
      let list = ap (λ (o : StepResult). o.list) e in
      let said = sym (ap (λ (o : StepResult). o.reply) e) ∙ ap row_reply answer in
      let taken = parsed_entry h a l entered in
      let q = narrow_row h a l taken sel heap c d (sym opened_some) (sym opened_all) how r low i j u v n said in
      let w = (rw (← list) at q) room in
      let k = length (struck_cells (wanted sel) (take n after_u)) in (
        w.0,
        row_reply_decides some (Ok (Some k)) (ap (λ (o : StepResult). o.reply) e' ∙ w.1.0),
        ap (λ (o : StepResult). o.list) e' ∙ w.1.1,
      )

  -- and where the read of all columns answers the 13 of a chosen column, so does that of the choice
  pub narrow_row_13_run : (r : ℕ) → r < l.naxis2 → (i j : ℕ) (u v after_u after_v : List Cell)
      (moved_all moved : TableData) (all some : Result (Option ℕ) Refusal) (k : ℕ)
      → LentRowEnsures l a (cursor_at (choice_of l all_columns) heap (at_row r i)) moved_all how u after_u all
      → LentRowEnsures l a (cursor_at (choice_of l sel) heap (at_row r j)) moved how v after_v some
      → wanted sel k ≡ true → row_reply all ≡ refused 13 k → row_reply some ≡ refused 13 k
  narrow_row_13_run r low i j u v after_u after_v moved_all moved all some k e e' kept said =
      ap (λ (o : StepResult). o.reply) e'
      ∙ narrow_row_13 h a l (parsed_entry h a l entered) sel heap c d (sym opened_some) (sym opened_all) how r low i j u v k
      kept (sym (ap (λ (o : StepResult). o.reply) e) ∙ said)
