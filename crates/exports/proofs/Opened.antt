-- What the entry and opening say of a layout's sum and of the reads from there on.
-- Assumes nothing.
use Prim.Native.Nat.{ℕ, ◌≤◌, ◌-◌}
use mathlib.Core.Path.{◌≡◌, refl, sym, ap, ◌∙◌}
use mathlib.Core.Bool.{Bool, true}
use mathlib.Core.List.{List}
use native.Mathlib.Omega.{arith}
use Rattle.ascii.proofs.Cases.{either}
use Rattle.refusal.specs.Refusal as H
use Rattle.layout.specs.declared.BinTable.{BinTable}
use Rattle.refusal.specs.declared.Refusal.{Refusal}
use Rattle.refusal.specs.Refusal.{number_of, place_of}
use Rattle.bintable.specs.Entry as B
use Rattle.bintable.proofs.Kept.{entry_ok}
use Rattle.walk.specs.declared.TableData.{TableData}
use Rattle.walk.specs.declared.Reading.{Reading}
use Rattle.walk.specs.Plain.{row_entries}
use Rattle.walk.specs.declared.Entry.{Entry}
use Rattle.walk.specs.Scaled.{in_reading}
use Rattle.walk.specs.Walk.{start, entries_from, entries_left}
use Rattle.walk.specs.Step.{listed, fits, choice_ok, choice_of, belongs, cursor_at, open_with}
use Rattle.layout.proofs.Sizes.{limits}
use Rattle.walk.proofs.Follows.{ok_start}
use Rattle.walk.proofs.InOrder.{left_start}
use Rattle.exports.specs.declared.Start.{Start}
use Rattle.exports.specs.Checksum.{add_cells, with_number}
use Rattle.exports.specs.Reads.{CellsRead, ended, cell_reads, Way, by_cells, by_rows, opened_reads, entry_reads, table_reads, reads_sum}
use Rattle.exports.specs.Loops.{cells_from, rows_from}

-- ---- the layout

module _ (h a : List ℕ) where
  -- it has no more columns than there is room for
  pub few_accepted : (l : BinTable) → B.accepted l ≡ B.entry h a → l.tfields ≤ 64
  few_accepted l e = (limits l (entry_ok h a l (sym e))).columns

  -- nor has the one beside a refusal
  pub few_columns : (B.layout_in (B.entry h a)).tfields ≤ 64
  few_columns = go (B.entry h a) refl
    where
      go : (e : B.Entry) → B.entry h a ≡ e → (B.layout_in e).tfields ≤ 64
      go (B.accepted l) q = few_accepted l (sym q)
      go (B.refused n p) q = omega arith

-- ---- the cursor

module _ (l : BinTable) (a : List ℕ) where
  start_belongs : (choice : ℕ) (heap : Bool) → fits l a ≡ true → choice_ok l choice ≡ true
      → belongs l a (cursor_at choice heap start) ≡ true
  unfolding belongs
  start_belongs choice heap f c = rw (f, c) (ok_start (row_entries l a choice heap) l.naxis2 0 (omega arith))

-- a way to read, and what it comes to from a cursor on, which at the table's start is the same
pub record Read (way : Way) (from : BinTable → List ℕ → Reading → TableData → CellsRead) : Type 0 where
  pub all : (l : BinTable) (a : List ℕ) (m : Reading) (choice : ℕ) (heap : Bool) → belongs l a (cursor_at choice heap start) ≡ true
      → from l a m (cursor_at choice heap start) ≡ way (in_reading l m (row_entries l a choice heap)) l.naxis2

pub cell_reads_lem : Read by_cells cells_from
unfolding cells_from
cell_reads_lem = record { all = λ l a m choice heap b. rw b (ap cell_reads (first (in_reading l m (row_entries l a choice heap)) l.naxis2)) }
  where
    first : (rows : ℕ → List Entry) (n : ℕ) → entries_left rows n (n - 0) 0 0 ≡ entries_from rows n 0 n
    first rows n =
        let e : n - 0 ≡ n = omega arith in
        left_start rows n (n - 0) 0 ∙ rw e

pub row_reads_lem : (m : ℕ) → Read (by_rows m) (rows_from m)
row_reads_lem m = record { all = λ l a m choice heap b. let z : l.naxis2 - 0 ≡ l.naxis2 = omega arith in rw (b, z) }

module _ (way : Way) (from : BinTable → List ℕ → Reading → TableData → CellsRead) (read : Read way from)
    (a cols : List ℕ) (heap : Bool) (m : Reading) where
  -- reads from the cursor c on, if the checks before accept
  abbrev read_by : H.Outcome → BinTable → TableData → CellsRead
  read_by H.accepted l c = from l a m c
  read_by (H.refused n p) l c = ended n

  opened : (l : BinTable) → let o = open_with l a (listed cols) heap in
      read_by o.outcome l o.cursor ≡ opened_reads way l a cols heap m o.outcome
  unfolding open_with
  opened l =
      let choice = choice_of l (listed cols) in
      either (fits l a)
      (λ f.
      either (choice_ok l choice) (λ c. rw (f, c) (read.all l a m choice heap (start_belongs l a choice heap f c)))
      (λ c. rw (f, c)))
      (λ f. rw f)

  entered : (o : H.Outcome) (k : BinTable)
      → let l = B.layout_in (B.entry_by o k) in let p = open_with l a (listed cols) heap in
      read_by (H.before o p.outcome) l p.cursor ≡ entry_reads way a cols heap m (B.entry_by o k)
  entered H.accepted k = opened k
  entered (H.refused n p) k = refl

  -- of what `open_table` returns, by its contract
  module _ (h : List ℕ) where
    abbrev layout : BinTable
    layout = B.layout_in (B.entry h a)

    table_reads_lem : (o : H.Outcome) → o ≡ H.before (B.all_checks h a) (open_with layout a (listed cols) heap).outcome
        → read_by o layout (open_with layout a (listed cols) heap).cursor ≡ table_reads way h a cols heap m
    table_reads_lem o e = rw e (entered (B.all_checks h a) (B.layout_of h))

    pub sum_refused : (r : Refusal) → H.refused (number_of r) (place_of r) ≡ H.before (B.all_checks h a) (open_with layout a (listed cols) heap).outcome
        → with_number (number_of r) 0 ≡ reads_sum (table_reads way h a cols heap m)
    unfolding add_cells
    sum_refused r e = ap reads_sum (table_reads_lem (H.refused (number_of r) (place_of r)) e)

    pub sum_passed : (s : Start) → H.accepted ≡ H.before (B.all_checks h a) (open_with layout a (listed cols) heap).outcome
        → (s.layout ≡ layout) × (s.cursor ≡ (open_with s.layout a (listed cols) heap).cursor)
        → reads_sum (from s.layout a m s.cursor) ≡ reads_sum (table_reads way h a cols heap m)
    sum_passed s e f = ap reads_sum (rw (f.1, f.0) (table_reads_lem H.accepted e))
