-- Cell reads of a narrow choice beside cell reads of all columns, from two cursors that were opened on one table
-- that the entry accepts, in either reading. Those of the choice answer the struck-out list. So they hand out the
-- cells that reads of all columns hand out, less those of the other columns. Reads of all columns may stop at a 13 of
-- a column that is struck out; reads of the choice then hand out more: the cells behind it, up to the next 13 of a
-- column that stays.
-- Assumes nothing.
use Prim.Native.Nat.{ℕ, zero, suc, ◌≤◌}
use mathlib.Core.Path.{◌≡◌, refl, sym, ap, ◌∙◌}
use mathlib.Core.Bool.{Bool, true, false}
use mathlib.Core.List.{List, [], ◌∷◌, ◌++◌, map, append-nil}
use native.Mathlib.Omega.{arith}
use lib.ListN.{length, replicate}
use Rattle.ascii.proofs.Cases.{either}
use Rattle.bintable.specs.Entry.{accepted, entry}
use Rattle.layout.specs.declared.BinTable.{BinTable}
use Rattle.cell.specs.declared.Cell.{Cell}
use Rattle.walk.specs.declared.TableData.{TableData}
use Rattle.walk.specs.declared.Entry.{Entry}
use Rattle.walk.specs.declared.Entry.TheVariants as E
use Rattle.walk.specs.declared.How.{How}
use Rattle.walk.specs.Plain.{row_entries}
use Rattle.walk.specs.Scaled.{in_reading}
use Rattle.walk.specs.Walk.{read_cell, Reply, Outcome, start, entries_from}
use Rattle.walk.specs.Walk.{Gathered, all_cells, outside, before, gather}
use Rattle.walk.specs.Step.{choice_ok, cursor_at, Selection, all_columns, wanted, choice_of}
use Rattle.walk.specs.Step.{opened, open_with, with_cursor, StepResult, run, plain_walk}
use Rattle.walk.specs.Narrow.{struck, struck_cells, cells_in, cells_before_13, behind_13}
use Rattle.walk.proofs.Isolation.{entry_fits, entry_opens, by_choice, walked}
use Rattle.walk.proofs.InOrder.{answers_to, cell_reads}
use Rattle.walk.proofs.Narrow.{narrow_list}

-- ---- lists of entries

-- the end and a 13 hand out no cell, however often they are answered
none_at_end : (m : ℕ) → cells_in (answers_to m []) ≡ []
none_at_end zero = refl
none_at_end (suc m) = none_at_end m

none_at_13 : (m k : ℕ) (es : List Entry) → cells_in (answers_to m (E.OutsideHeap k ∷ es)) ≡ []
none_at_13 zero k es = refl
none_at_13 (suc m) k es = none_at_13 m k es

-- enough cell reads hand out the cells before the first 13
cells_read : (m : ℕ) (es : List Entry) → length es ≤ m → cells_in (answers_to m es) ≡ cells_before_13 es
unfolding cells_before_13
cells_read m [] h = none_at_end m
cells_read m (E.OutsideHeap k ∷ es) h = none_at_13 m k es
cells_read zero (E.Cell x ∷ es) h = absurd (omega (arith, h))
cells_read (suc m) (E.Cell x ∷ es) h = ap (λ (xs : List Cell). x ∷ xs) (cells_read m es (omega (arith, h)))

ended : (xs : List Cell) (k : ℕ) → all_cells xs ≡ outside k → ⊥
ended xs k e = cc

still_outside : (x : Cell) (k : ℕ) (g : Gathered) → before x g ≡ outside k → g ≡ outside k
still_outside x k (all_cells xs) e = absurd (ended (x ∷ xs) k e)
still_outside x k (outside j) e = e

module _ (keep : ℕ → Bool) where
  -- the cells before the first 13 of the struck-out list: those of the whole list, struck out, and where its first 13
  -- is struck out itself, the cells that follow
  cells_narrow : (es : List Entry)
      → cells_before_13 (struck keep es)
      ≡ struck_cells keep (cells_before_13 es) ++ cells_before_13 (struck keep (behind_13 keep es))
  unfolding cells_before_13 behind_13
  cells_narrow [] = refl
  cells_narrow (E.Cell x ∷ es) =
      either (keep x.column) (λ t. rw (t, cells_narrow es)) (λ t. rw (t, cells_narrow es))
  cells_narrow (E.OutsideHeap k ∷ es) = either (keep k) (λ t. rw t) (λ t. rw t)

  -- nothing follows where there is no 13, or where the first is one of a column that stays
  behind_none : (es : List Entry) → ((k : ℕ) → gather es ≡ outside k → keep k ≡ true) → behind_13 keep es ≡ []
  unfolding behind_13 gather
  behind_none [] h = refl
  behind_none (E.Cell x ∷ es) h = behind_none es (λ k e. h k (ap (before x) e))
  behind_none (E.OutsideHeap k ∷ es) h = rw (h k refl)

  -- and then there is nothing to add
  nothing_behind : (xs : List Cell) (es : List Entry) → es ≡ []
      → struck_cells keep xs ++ cells_before_13 (struck keep es) ≡ struck_cells keep xs
  unfolding cells_before_13
  nothing_behind xs es e = rw e (append-nil (struck_cells keep xs))

  -- where the first 13 is one of a column that is struck out, the list is the cells before it, that 13, and what is
  -- behind
  behind_first : (es : List Entry) (k : ℕ) → gather es ≡ outside k → keep k ≡ false
      → es ≡ map E.Cell (cells_before_13 es) ++ (E.OutsideHeap k ∷ behind_13 keep es)
  unfolding behind_13 gather cells_before_13
  behind_first [] k e t = absurd (ended [] k e)
  behind_first (E.Cell x ∷ es) k e t =
      ap (λ (fs : List Entry). E.Cell x ∷ fs) (behind_first es k (still_outside x k (gather es) e) t)
  behind_first (E.OutsideHeap j ∷ es) k e t =
      let q : j ≡ k = cc in
      rw (q, t)

-- ---- a cursor that was opened

-- the answers of m cell reads from a cursor on
abbrev pub cell_replies : BinTable → List ℕ → How → ℕ → TableData → List Reply
cell_replies l a how m c = map (λ (o : StepResult). o.reply) (run l a c (replicate m (read_cell how)))

-- the entries of all rows of a selection, in a reading
abbrev pub table_entries : BinTable → List ℕ → Selection → Bool → How → List Entry
table_entries l a sel heap how =
    entries_from (in_reading l how.reading (row_entries l a (choice_of l sel) heap)) l.naxis2 0 l.naxis2

replies_kept : (choice : ℕ) (heap : Bool) (os : List Outcome)
    → map (λ (o : StepResult). o.reply) (map (with_cursor choice heap) os) ≡ map (λ (o : Outcome). o.reply) os
replies_kept choice heap [] = refl
replies_kept choice heap (o ∷ os) = ap (λ (ys : List Reply). o.reply ∷ ys) (replies_kept choice heap os)

module _ (h a : List ℕ) (l : BinTable) (e : entry h a ≡ accepted l) (sel : Selection) (heap : Bool) (c : TableData)
    (o : open_with l a sel heap ≡ opened c) where
  -- its choice belongs, and it stands at the start
  pub opened_at : (choice_ok l (choice_of l sel) ≡ true) × (cursor_at (choice_of l sel) heap start ≡ c)
  opened_at =
      by_choice (choice_ok l (choice_of l sel)) (cursor_at (choice_of l sel) heap start) c
      (sym (entry_opens h a l sel heap e) ∙ o)

  -- cell reads from it on answer the entries of all its rows
  opened_answers : (how : How) (m : ℕ) → cell_replies l a how m c ≡ answers_to m (table_entries l a sel heap how)
  opened_answers how m =
      let choice = choice_of l sel in
      let xs = replicate m (read_cell how) in
      rw (← opened_at.1)
      (ap (map (λ (o : StepResult). o.reply)) (walked l a sel heap xs (entry_fits h a l e) opened_at.0)
      ∙ replies_kept choice heap (plain_walk l a choice heap xs)
      ∙ cell_reads l how (row_entries l a choice heap) l.naxis2 m)

-- ---- a narrow choice beside all columns

module _ (h a : List ℕ) (l : BinTable) (e : entry h a ≡ accepted l) (sel : Selection) (heap : Bool) (c d : TableData)
    (oc : open_with l a sel heap ≡ opened c) (od : open_with l a all_columns heap ≡ opened d) (how : How) where
  -- the entries of all rows and columns
  abbrev full_list : List Entry
  full_list = table_entries l a all_columns heap how

  -- cell reads of the choice answer the entries of all columns less those of the unwanted ones; reads of all columns
  -- answer all
  pub narrow_answers : (m n : ℕ)
      → (cell_replies l a how m c ≡ answers_to m (struck (wanted sel) full_list))
      × (cell_replies l a how n d ≡ answers_to n full_list)
  narrow_answers m n = (
    opened_answers h a l e sel heap c oc how m
        ∙ ap (answers_to m) ((narrow_list h a l sel heap e).table how.reading 0 l.naxis2),
    opened_answers h a l e all_columns heap d od how n,
  )

  -- so, where each cursor is read at least as often as it has entries, reads of the choice hand out the cells that
  -- reads of all columns do, less the unwanted columns', and then those behind the 13 of an unwanted column that stops
  -- reads of all columns, up to the next 13 of a wanted one
  pub narrow_cells : (m n : ℕ) → length (table_entries l a sel heap how) ≤ m → length full_list ≤ n
      → cells_in (cell_replies l a how m c)
      ≡ struck_cells (wanted sel) (cells_in (cell_replies l a how n d))
      ++ cells_before_13 (struck (wanted sel) (behind_13 (wanted sel) full_list))
  narrow_cells m n hm hn =
      let own = (narrow_list h a l sel heap e).table how.reading 0 l.naxis2 in
      rw (
        (narrow_answers m n).0,
        (narrow_answers m n).1,
        cells_read n full_list hn,
        ← own,
        cells_read m (table_entries l a sel heap how) hm,
      )
      (ap cells_before_13 own ∙ cells_narrow (wanted sel) full_list)

  -- nothing is behind where there is no 13, or where the first of all columns is one of a wanted column
  pub narrow_whole : (m n : ℕ) → length (table_entries l a sel heap how) ≤ m → length full_list ≤ n
      → ((k : ℕ) → gather full_list ≡ outside k → wanted sel k ≡ true)
      → cells_in (cell_replies l a how m c) ≡ struck_cells (wanted sel) (cells_in (cell_replies l a how n d))
  narrow_whole m n hm hn first =
      narrow_cells m n hm hn
      ∙ nothing_behind (wanted sel) (cells_in (cell_replies l a how n d)) (behind_13 (wanted sel) full_list)
      (behind_none (wanted sel) full_list first)

  -- where the first is one of an unwanted column k, what is behind is all that follows it
  pub narrow_past : (n k : ℕ) → length full_list ≤ n → gather full_list ≡ outside k → wanted sel k ≡ false
      → full_list
      ≡ map E.Cell (cells_in (cell_replies l a how n d)) ++ (E.OutsideHeap k ∷ behind_13 (wanted sel) full_list)
  narrow_past n k hn first out =
      behind_first (wanted sel) full_list k first out
      ∙ ap (λ (xs : List Cell). map E.Cell xs ++ (E.OutsideHeap k ∷ behind_13 (wanted sel) full_list))
      (sym (ap cells_in (narrow_answers n n).1 ∙ cells_read n full_list hn))
