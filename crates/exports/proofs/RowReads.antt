-- What a row read says of row reads from a cursor on.
-- Assumes nothing.
use Rattle.std.specs.Prelude.{Option, Some, None, Result, Ok, Err}
use Prim.Native.Nat.{ℕ, suc, ◌-◌, ◌≤◌, ◌<◌}
use mathlib.Core.Path.{◌≡◌, refl, ap, sym, subst, ◌∙◌}
use mathlib.Core.Bool.{true, cond, ◌&&◌, false≢true}
use mathlib.Core.List.{List}
use native.Mathlib.Omega.{arith}
use lib.Dec.{leb, ltb}
use lib.ListN.{length, take, drop, length-append}
use lib.Seq.{take-append_seam}
use borrow.Author.Tests.{ltb-true, ltb-false}
use Rattle.ascii.proofs.Cases.{either, both}
use Rattle.refusal.specs.declared.Refusal.{Refusal}
use Rattle.layout.specs.declared.BinTable.{BinTable}
use Rattle.cell.specs.declared.Cell.{Cell}
use Rattle.walk.specs.declared.TableData.{TableData}
use Rattle.walk.specs.declared.Entry.{Entry}
use Rattle.walk.specs.declared.Stepped.{Stepped}
use Rattle.walk.specs.Plain.{row_entries}
use Rattle.walk.specs.declared.Reading.{Reading}
use Rattle.walk.specs.declared.How.{How}
use Rattle.walk.specs.Readings.{stored_by}
use Rattle.walk.specs.Walk.{read_row, State, placed, grown, place_ok, Gathered, all_cells, outside, row_outcome, rest, walk_step}
use Rattle.walk.specs.Step.{fits, choice_ok, belongs, state_of, cursor_at, StepResult, with_cursor, cursor_step, row_reply, row_result}
use Rattle.walk.proofs.Follows.{ok_start}
use Rattle.exports.specs.Checksum.{add_cells, with_number}
use Rattle.exports.specs.Reads.{CellsRead, ended, and_then, row_then, row_reads}
use Rattle.exports.specs.Loops.{rows_in, rows_from, sum_then, number_by, row_by, number_in}
use Rattle.exports.proofs.Sums.{cells_then}

module _ (l : BinTable) (a : List ℕ) (c : TableData) (how : How) (list : List Cell) where
  abbrev n : ℕ
  n = length list

  abbrev m : Reading
  m = how.reading

  -- the plain list of a row, and that of the reading
  abbrev plain_rows : ℕ → List Entry
  plain_rows = row_entries l a c.choice c.heap

  abbrev rows : ℕ → List Entry
  rows = rows_in l a m c

  -- of a result o, where w is what reads from c on come to: the stored cells and then those of later rows, or the end
  record Read (w : CellsRead) (o : StepResult) : Type 0 where
    pub reads : w
        ≡ cond (row_by o.reply) (and_then (take (stored_by o.reply) o.list) (rows_from n l a m o.cursor))
        (ended (number_by o.reply))
    pub inside : stored_by o.reply ≤ length o.list
    pub next : row_by o.reply ≡ true → (c.row < l.naxis2) × (o.cursor.row ≡ suc c.row)

  -- a later row's start
  start_of : (s : State) → belongs l a c ≡ true → s.passed ≡ 0 → s.row ≤ l.naxis2
      → belongs l a (cursor_at c.choice c.heap s) ≡ true
  unfolding belongs
  start_of s fit e h =
      let place = place_ok plain_rows l.naxis2 c.row c.passed in
      let fitting = both (fits l a) (choice_ok l c.choice && place) fit in
      rw (fitting.0, (both (choice_ok l c.choice) place fitting.1).0, e) (ok_start plain_rows l.naxis2 s.row h)

  by_gathered : belongs l a c ≡ true → c.row < l.naxis2 → (g : Gathered)
      → Read (row_then n g (row_reads n rows (l.naxis2 - suc c.row) (suc c.row) 0))
      (with_cursor c.choice c.heap (row_outcome rows l.naxis2 (state_of c) how list g))
  by_gathered fit h (outside k) = record { reads = refl; inside = omega arith; next = λ e. absurd (false≢true e) }
  by_gathered fit h (all_cells cs) =
      let s : State = placed (grown (state_of c) (read_row how list) (length cs)) (suc c.row) 0 in
      let b = start_of s fit refl h in
      either (leb (length cs) n)
      (λ t. rw t (record {
        reads = rw (b, take-append_seam cs (drop (length cs) list));
        inside = rw length-append (omega arith);
        next = λ e. (h, refl);
      }))
      (λ t. rw t (record { reads = refl; inside = omega arith; next = λ e. absurd (false≢true e) }))

  row_read : Read (rows_from n l a m c) (cursor_step l a c (read_row how list))
  unfolding cursor_step walk_step row_reads
  row_read =
      either (belongs l a c)
      (λ fit.
      either (ltb c.row l.naxis2)
      (λ t.
      let h = ltb-true c.row l.naxis2 t in
      let e : l.naxis2 - c.row ≡ suc (l.naxis2 - suc c.row) = omega (arith, h) in
      rw (fit, t, e) (by_gathered fit h (rest rows l.naxis2 (state_of c))))
      (λ t.
      let e : l.naxis2 - c.row ≡ 0 = omega (arith, ltb-false c.row l.naxis2 t) in
      rw (fit, t, e) (record { reads = refl; inside = omega arith; next = λ e. absurd (false≢true e) })))
      (λ fit. rw fit (record { reads = refl; inside = omega arith; next = λ e. absurd (false≢true e) }))

-- a turn of the loop: what the read returned and left in the list, the sum so far, and what is returned in the end
module _ (l : BinTable) (a : List ℕ) (c : TableData) (how : How) (list zs : List Cell) (r : Stepped (Option ℕ))
    (read : row_result r.cursor r.answer zs ≡ cursor_step l a c (read_row how list)) where
  abbrev from : TableData → CellsRead
  from d = rows_from (length list) l a how.reading d

  turn : Read l a c how list (from c) (row_result r.cursor r.answer zs)
  turn = subst (λ (o : StepResult). Read l a c how list (from c) o) (sym read) (row_read l a c how list)

  -- of a row: its cells are stored, their sum is added, and the cursor is at the next row
  module _ (n : ℕ) (e : r.answer ≡ Ok (Some n)) where
    row_turn : Read l a c how list (from c) (row_result r.cursor (Ok (Some n)) zs)
    row_turn = rw e at turn

    pub row_stored : n ≤ length zs
    row_stored = row_turn.inside

    pub row_added : (s t m : ℕ) → length list ≡ m → sum_then s (rows_from m l a how.reading c) ≡ t
        → sum_then (add_cells s (take n zs)) (rows_from m l a how.reading r.cursor) ≡ t
    row_added s t m q same =
        let later = from r.cursor in
        let w : sum_then (add_cells s (take n zs)) later ≡ sum_then s (from c) =
        rw row_turn.reads (ap (with_number later.number) (cells_then s (take n zs) later.cells)) in
        rw q at (w ∙ rw (← q) at same)

    pub row_fewer : l.naxis2 - r.cursor.row < l.naxis2 - c.row
    row_fewer = let k = row_turn.next refl in rw k.1 (omega (arith, k.0))

  -- of any other answer
  pub rows_ended : (s t m : ℕ) → ((n : ℕ) → r.answer ≡ Ok (Some n) → ⊥) → length list ≡ m → sum_then s (rows_from m l a how.reading c) ≡ t
      → with_number (number_in r.answer) s ≡ t
  unfolding add_cells
  rows_ended s t m none q same = ended_by r.answer none turn.reads
    where
      ended_by : (y : Result (Option ℕ) Refusal) → ((n : ℕ) → y ≡ Ok (Some n) → ⊥)
          → from c ≡ cond (row_by (row_reply y)) (and_then (take (stored_by (row_reply y)) zs) (from r.cursor)) (ended (number_by (row_reply y)))
          → with_number (number_in y) s ≡ t
      ended_by (Ok (Some n)) none w = absurd (none n refl)
      ended_by (Ok None) none w = let z = rw (← q, w) at same in z
      ended_by (Err x) none w = let z = rw (← q, w) at same in z
