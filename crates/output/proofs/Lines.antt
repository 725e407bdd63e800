-- The lines of `replay`, step by step.
-- Assumes nothing.
use Rattle.std.specs.Prelude.{Option, Some, None, Result, Ok, Err}
use Prim.Native.Nat.{ℕ, suc, ◌+◌, ◌≤◌, ◌<◌, min}
use mathlib.Core.Path.{◌≡◌, refl, ap, ◌∙◌}
use mathlib.Core.List.{List, [], ◌∷◌, ◌++◌}
use native.Mathlib.Numerals.{add-one}
use native.Mathlib.Omega.{arith}
use lib.Dec.{eqb, ltb}
use lib.ListN.{length, take, drop, replicate, get_or, length-take, drop_of_length-le}
use lib.Seq.{get_or-take, drop-cons}
use borrow.Author.Tests.{ltb-true, ltb-false}
use Rattle.ascii.proofs.Cases.{either, by_test}
use Rattle.refusal.specs.declared.Refusal.{Refusal}
use Rattle.layout.specs.declared.BinTable.{BinTable}
use Rattle.cell.specs.declared.Cell.{Cell}
use Rattle.cell.specs.Item.{blank_cell}
use Rattle.walk.specs.declared.TableData.{TableData}
use Rattle.walk.specs.declared.Stepped.{Stepped}
use Rattle.walk.specs.declared.How.{How}
use Rattle.walk.specs.Readings.{stored_by}
use Rattle.walk.proofs.Answers.{stored_inside}
use Rattle.walk.specs.Walk.{read_cell, read_row, seek}
use Rattle.walk.specs.Step.{StepResult, cursor_step, cell_reply, row_reply, seek_reply, cell_result, row_result, seek_result}
use Rattle.row.specs.declared.owners.RowCell.{RowCell}
use Rattle.row.specs.Owned.{own_list, own_read}
use Rattle.listing.specs.declared.Line.TheVariants as L
use Rattle.listing.specs.Lines.{at_line}
use Rattle.steps.specs.declared.Command.{Command}
use Rattle.steps.specs.declared.Command.TheVariants as C
use Rattle.steps.specs.Split.{before, lines_of, line_at, line_feeds}
use Rattle.steps.specs.Line.{says, command_of}
use Rattle.steps.specs.Line as S
use Rattle.steps.proofs.Lines.{line_length, lines_next, lines_none, feeds_next}
use Rattle.output.specs.declared.State.TheVariants as T
use Rattle.output.specs.Replay.{Asked, step, none, asked, answer_lines, result_lines, line_by, step_lines}
use Rattle.output.specs.State.{steps_from, left, next_lines}
use Rattle.output.specs.Next.{cell_next, seek_next, row_next}

-- ---- lines of the file

-- there are no more line feeds than bytes
feeds_few : (s : List ℕ) → line_feeds s ≤ length s
unfolding line_feeds
feeds_few [] = omega arith
feeds_few (b ∷ bs) = by_test (λ (n : ℕ). n ≤ suc (length bs)) (eqb b 10) (λ e. omega (arith, feeds_few bs)) (λ e. omega (arith, feeds_few bs))

pub feeds_before : (s : List ℕ) (at : ℕ) → line_feeds (take at s) ≤ length s
feeds_before s at = omega (arith, feeds_few (take at s), length-take at s)

-- the step that a command is
abbrev pub asked_of : Option Command → Asked
asked_of (Some C.ChooseAll) = none
asked_of (Some C.Choose) = none
asked_of (Some (C.Heap on)) = none
asked_of (Some (C.Cell how)) = step (read_cell how)
asked_of (Some (C.Row how n)) = step (read_row how (replicate n blank_cell))
asked_of (Some (C.Seek r)) = step (seek r)
asked_of None = none

asked_command : (y : S.Says) → asked y ≡ asked_of (command_of y)
asked_command S.choose_all = refl
asked_command (S.choose is) = refl
asked_command (S.heap on) = refl
asked_command (S.cell how) = refl
asked_command (S.row how n) = refl
asked_command (S.seek r) = refl
asked_command S.bad = refl

module _ (l : BinTable) (a s : List ℕ) (at : ℕ) where
  -- the place after the line
  abbrev after_line : ℕ
  after_line = at + before 10 (drop at s) + 1

  -- the later lines have the next number
  numbered : at < length s → (d : TableData) → step_lines l a (suc (line_feeds (take at s) + 1)) (lines_of (drop after_line s)) d ≡ steps_from l a s after_line d
  unfolding step_lines
  numbered h d =
      either (ltb (at + before 10 (drop at s)) (length s))
      (λ t. rw (feeds_next s at (ltb-true _ _ t), ← add-one (line_feeds (take at s) + 1)))
      (λ t. rw (lines_none s after_line (omega (arith, ltb-false (at + before 10 (drop at s)) (length s) t))))

  later : (c : TableData) (n : ℕ) (x : Asked) (f g : TableData → List (List ℕ)) → ((d : TableData) → f d ≡ g d) → line_by l a c n x f ≡ line_by l a c n x g
  later c n (step x) f g e = rw (e (cursor_step l a c x).cursor)
  later c n none f g e = refl

  steps_next : (c : TableData) → at < length s → steps_from l a s at c ≡ line_by l a c (line_feeds (take at s) + 1) (asked (says (line_at s at))) (steps_from l a s after_line)
  unfolding step_lines
  steps_next c h =
      rw (lines_next s at h)
      (later c (line_feeds (take at s) + 1) (asked (says (line_at s at))) (step_lines l a (suc (line_feeds (take at s) + 1)) (lines_of (drop after_line s))) (steps_from l a s after_line) (numbered h))

  -- the same as the code finds the line
  pub steps_command : (c : TableData) (t : List ℕ) (y : Option Command) → at < length s → t ≡ line_at s at → y ≡ command_of (says t)
      → line_by l a c (line_feeds (take at s) + 1) (asked_of y) (steps_from l a s (at + length t + 1)) ≡ steps_from l a s at c
  steps_command c t y h e f =
      let q : y ≡ command_of (says (line_at s at)) = f ∙ rw e in
      let z : length t ≡ before 10 (drop at s) = rw e (line_length s at h) in
      rw (steps_next c h, asked_command (says (line_at s at)), q, z)

pub steps_none : (l : BinTable) (a s : List ℕ) (at : ℕ) (c : TableData) → length s ≤ at → [] ≡ steps_from l a s at c
unfolding step_lines
steps_none l a s at c h = rw (lines_none s at h)

-- the cells of a list that a row read stored, from cell k on
cells_next : (list : List Cell) (m k : ℕ) → k < m → m ≤ length list
    → drop k (take m list) ≡ get_or list k blank_cell ∷ drop (k + 1) (take m list)
cells_next list m k b i =
    rw (add-one k, ← get_or-take m list k blank_cell b)
    (drop-cons (take m list) k blank_cell (omega (arith, length-take m list)))

-- ---- answers

module _ (h : List ℕ) (l : BinTable) (a s : List ℕ) (at : ℕ) where
  -- a step with no list: with the answer comes the line after it
  by_cell : (how : How) (y : Result (Option Cell) Refusal) (d : TableData)
      → next_lines h l a s (Some (cell_next y at d)) ≡ answer_lines (read_cell how) (cell_reply y) [] ++ (at_line d ∷ steps_from l a s at d)
  by_cell how (Ok (Some c)) d = refl
  by_cell how (Ok None) d = refl
  by_cell how (Err q) d = refl

  pub cell_next_lem : (c : TableData) (how : How) (r : Stepped (Option Cell)) → cell_result r.cursor r.answer ≡ cursor_step l a c (read_cell how)
      → next_lines h l a s (Some (cell_next r.answer at r.cursor)) ≡ result_lines (read_cell how) (cursor_step l a c (read_cell how)) (steps_from l a s at)
  cell_next_lem c how r e = rw (← e) (by_cell how r.answer r.cursor)

  by_seek : (k : ℕ) (y : Result Unit Refusal) (d : TableData)
      → next_lines h l a s (Some (seek_next y k at d)) ≡ answer_lines (seek k) (seek_reply y) [] ++ (at_line d ∷ steps_from l a s at d)
  by_seek k (Ok x) d = refl
  by_seek k (Err q) d = refl

  pub seek_next_lem : (c : TableData) (k : ℕ) (r : Stepped Unit) → seek_result r.cursor r.answer ≡ cursor_step l a c (seek k)
      → next_lines h l a s (Some (seek_next r.answer k at r.cursor)) ≡ result_lines (seek k) (cursor_step l a c (seek k)) (steps_from l a s at)
  seek_next_lem c k r e = rw (← e) (by_seek k r.answer r.cursor)

  -- ---- row reads

  by_row : (c : TableData) (how : How) (n : ℕ) (y : Result (Option ℕ) Refusal) (d : TableData)
      → let o = own_read l a c how blank_cell n in row_reply y ≡ o.reply → d ≡ o.cursor
      → next_lines h l a s (Some (row_next y at c how n d)) ≡ result_lines (read_row how (own_list blank_cell n)) o (steps_from l a s at)
  by_row c how n (Ok (Some k)) d e q = rw (← e)
  by_row c how n (Ok None) d e q = rw (← e, q)
  by_row c how n (Err x) d e q = rw (← e, q)

  -- a row read into a list of n cells
  pub row_next_lem : (c : TableData) (how : How) (n : ℕ) (r : Stepped (Option ℕ)) → n ≤ 512
      → row_result r.cursor r.answer (own_read l a c how blank_cell n).list ≡ own_read l a c how blank_cell n
      → let x = read_row how (replicate n blank_cell) in
      next_lines h l a s (Some (row_next r.answer at c how n r.cursor)) ≡ result_lines x (cursor_step l a c x) (steps_from l a s at)
  row_next_lem c how n r k e =
      let q : min n 512 ≡ n = omega arith in
      rw q at (by_row c how n r.answer r.cursor (ap (λ (o : StepResult). o.reply) e) (ap (λ (o : StepResult). o.cursor) e))

  -- ---- the cells of a row read

  module _ (c : TableData) (how : How) (n k : ℕ) (r : RowCell)
      (e : row_result r.stepped.cursor r.stepped.answer (own_read l a c how blank_cell n).list ≡ own_read l a c how blank_cell n) where
    -- the next one
    pub listed_next : r.cell ≡ get_or (own_read l a c how blank_cell n).list k blank_cell
        → k < stored_by (row_reply r.stepped.answer)
        → next_lines h l a s (Some (record { line = L.Cell r.cell; state = T.Listed at c how n (k + 1) })) ≡ left h l a s (T.Listed at c how n k)
    listed_next f b =
        let o = own_read l a c how blank_cell n in
        let m : row_reply r.stepped.answer ≡ o.reply = ap (λ (x : StepResult). x.reply) e in
        rw (cells_next o.list (stored_by o.reply) k (rw m at b) (stored_inside l a c (read_row how (own_list blank_cell n))), f)

    -- after the last one
    pub listed_over : stored_by (row_reply r.stepped.answer) ≤ k
        → next_lines h l a s (Some (record { line = L.At r.stepped.cursor; state = T.Step at r.stepped.cursor }))
        ≡ left h l a s (T.Listed at c how n k)
    listed_over b =
        let o = own_read l a c how blank_cell n in
        let m : row_reply r.stepped.answer ≡ o.reply = ap (λ (x : StepResult). x.reply) e in
        let d : r.stepped.cursor ≡ o.cursor = ap (λ (x : StepResult). x.cursor) e in
        let cells = take (stored_by o.reply) o.list in
        let over : length cells ≤ k = omega (arith, rw m at b, length-take (stored_by o.reply) o.list) in
        rw (drop_of_length-le cells {i = k} over, d)
