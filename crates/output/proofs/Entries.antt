-- The lines of `cells` by cell reads: what the answer of one says of the lines that were left.
-- Assumes nothing.
use Rattle.std.specs.Prelude.{Option, Some, None, Result, Err, Ok}
use Prim.Native.Nat.{ℕ, suc, ◌+◌, ◌-◌, ◌≤◌, ◌<◌}
use mathlib.Core.Path.{◌≡◌, ap, ◌∙◌}
use mathlib.Core.Bool.{true}
use mathlib.Core.List.{List, [], ◌∷◌}
use native.Mathlib.Numerals.{add-one}
use native.Mathlib.Omega.{arith}
use Rattle.ascii.proofs.Cases.{either}
use Rattle.refusal.specs.declared.Refusal.{Refusal}
use Rattle.refusal.specs.Refusal as H
use Rattle.layout.specs.declared.BinTable.{BinTable}
use Rattle.refusal.specs.Refusal.{number_of, place_of}
use Rattle.cell.specs.declared.Cell.{Cell}
use Rattle.walk.specs.declared.TableData.{TableData}
use Rattle.walk.specs.declared.Entry.{Entry}
use Rattle.walk.specs.declared.Stepped.{Stepped}
use Rattle.walk.specs.Plain.{row_entries}
use Rattle.walk.specs.Scaled.{plain}
use Rattle.walk.specs.Walk.{read_cell, start, refused}
use Rattle.walk.specs.Step.{fits, choice_ok, belongs, all_columns, choice_of, Opening, open_with, opened, cursor_at, cursor_left, StepResult, cursor_step, cell_reply, cell_result, opening_of}
use Rattle.walk.proofs.Follows.{ok_start}
use Rattle.walk.proofs.InOrder.{left_start, ReadLeft, read_left}
use Rattle.walk.proofs.Steps.{step_unfit}
use Rattle.listing.specs.Lines.{column_line, refused_line}
use Rattle.output.specs.declared.State.TheVariants as S
use Rattle.output.specs.Cells.{entry_lines, column_lines, opened_lines, after_columns}
use Rattle.output.specs.State.{left, next_lines}
use Rattle.output.specs.Next.{cells_next}

module _ (h : List ℕ) (l : BinTable) (a s : List ℕ) where
  -- the lines by the answer and the cursor of a cell read
  abbrev pub cell_lines : Result (Option Cell) Refusal → TableData → List (List ℕ)
  cell_lines y d = next_lines h l a s (Some (cells_next y d))

  read_lines : (c : TableData) (es : List Entry) (y : Result (Option Cell) Refusal) (d : TableData) → ReadLeft l a c es (cell_reply y) d
      → cell_lines y d ≡ entry_lines c.count es
  unfolding entry_lines
  read_lines c es (Ok (Some x)) d t = rw (t.0, t.1.0, t.1.1)
  read_lines c es (Ok None) d t = rw (t.0, t.1)
  read_lines c es (Err q) d t = rw (t.1.1, t.0)

  ten_lines : (y : Result (Option Cell) Refusal) (d : TableData) → cell_reply y ≡ refused 10 0 → cell_lines y d ≡ refused_line 10 0 ∷ []
  ten_lines (Ok (Some x)) d e = cc
  ten_lines (Ok None) d e = cc
  ten_lines (Err q) d e =
      let n : number_of q ≡ 10 = cc in
      let p : place_of q ≡ 0 = cc in
      rw (n, p)

  pub cells_read : (c : TableData) (r : Stepped (Option Cell)) → cell_result r.cursor r.answer ≡ cursor_step l a c (read_cell plain) → cell_lines r.answer r.cursor ≡ left h l a s (S.Cells c)
  cells_read c r told =
      either (belongs l a c)
      (λ t. rw t (read_lines c (cursor_left l a c) r.answer r.cursor (rw (← told) at (read_left l a c t))))
      (λ t. rw t (ten_lines r.answer r.cursor (ap (λ (o : StepResult). o.reply) (told ∙ step_unfit l a c (read_cell plain) t))))

  -- the lines by what an opening returned
  abbrev open_lines : Result TableData Refusal → List (List ℕ)
  open_lines (Ok d) = left h l a s (S.Cells d)
  open_lines (Err q) = refused_line (number_of q) (place_of q) ∷ []

  -- a cursor at the start of the table has all entries left
  start_lines : fits l a ≡ true → choice_ok l (choice_of l all_columns) ≡ true → (d : TableData) → d ≡ cursor_at (choice_of l all_columns) true start
      → left h l a s (S.Cells d) ≡ opened_lines l a H.accepted
  unfolding belongs
  start_lines f k d e =
      let rows = row_entries l a (choice_of l all_columns) true in
      let n : l.naxis2 - 0 ≡ l.naxis2 = omega arith in
      rw (e, f, k, ok_start rows l.naxis2 0 (omega arith)) (ap (entry_lines 0) (left_start rows l.naxis2 (l.naxis2 - 0) 0 ∙ rw n))

  pub open_lines_lem : (r : Result TableData Refusal) → opening_of r ≡ open_with l a all_columns true → open_lines r ≡ after_columns l a
  unfolding open_with
  open_lines_lem (Err q) e = rw (← e)
  open_lines_lem (Ok d) e =
      either (fits l a)
      (λ f.
      either (choice_ok l (choice_of l all_columns))
      (λ k. let g : opened d ≡ opened (cursor_at (choice_of l all_columns) true start) = rw (f, k) at e in rw (f, k) (start_lines f k d (ap (λ (o : Opening). o.cursor) g)))
      (λ k. let g : H.accepted ≡ H.refused 11 0 = ap (λ (o : Opening). o.outcome) (rw (f, k) at e) in cc))
      (λ f. let g : H.accepted ≡ H.refused 10 0 = ap (λ (o : Opening). o.outcome) (rw f at e) in cc)

  -- the line of column c, and the lines after it
  pub column_next : (c : ℕ) → c < l.tfields → column_line h l c ∷ left h l a s (S.Column (c + 1)) ≡ left h l a s (S.Column c)
  unfolding column_lines
  column_next c k = let n : l.tfields - c ≡ suc (l.tfields - (c + 1)) = omega arith in rw (n, add-one c)

  columns_over : (c : ℕ) → l.tfields ≤ c → after_columns l a ≡ left h l a s (S.Column c)
  unfolding column_lines
  columns_over c k = let n : l.tfields - c ≡ 0 = omega arith in rw n

  -- after the last column the table is opened
  pub columns_opened : (c : ℕ) (d : TableData) → opened d ≡ open_with l a all_columns true → l.tfields ≤ c → left h l a s (S.Cells d) ≡ left h l a s (S.Column c)
  columns_opened c d e k = open_lines_lem (Ok d) e ∙ columns_over c k

  pub columns_refused : (c : ℕ) (q : Refusal) → opening_of (Err q) ≡ open_with l a all_columns true → l.tfields ≤ c
      → refused_line (number_of q) (place_of q) ∷ [] ≡ left h l a s (S.Column c)
  columns_refused c q e k = open_lines_lem (Err q) e ∙ columns_over c k
