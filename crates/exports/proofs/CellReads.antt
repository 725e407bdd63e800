-- What a cell read says of the reads from a cursor on, and the turns of a loop of cell reads: one law for both calls.
-- Assumes nothing.
use Rattle.std.specs.Prelude.{Option, Some, None, Result, Ok, Err}
use Prim.Native.Nat.{ℕ, zero, suc, ◌-◌, ◌<◌}
use mathlib.Core.Path.{◌≡◌, refl, sym, ap, subst}
use mathlib.Core.Bool.{true, false}
use mathlib.Core.List.{List, [], ◌∷◌, map, map-append}
use native.Mathlib.Omega.{arith}
use lib.ListN.{length, drop}
use Rattle.std.proofs.lemmas.List.{drop-map}
use Rattle.ascii.proofs.Cases.{either}
use Rattle.refusal.specs.declared.Refusal.{Refusal}
use Rattle.layout.specs.declared.BinTable.{BinTable}
use Rattle.cell.specs.declared.Cell.{Cell}
use Rattle.walk.specs.declared.TableData.{TableData}
use Rattle.walk.specs.declared.Entry.{Entry}
use Rattle.walk.specs.declared.Stepped.{Stepped}
use Rattle.walk.specs.declared.Reading.{Reading}
use Rattle.walk.specs.declared.Reading.TheVariants.{Plain, Scaled}
use Rattle.walk.specs.declared.How.{How}
use Rattle.walk.specs.Plain.{row_entries}
use Rattle.walk.specs.Scaled.{scaled_entry, in_reading, plain}
use Rattle.walk.specs.Readings.{scaled_reply, in_result}
use Rattle.walk.proofs.Readings.{step_in}
use Rattle.walk.specs.Walk.{read_cell, Reply, got_cell, got_row, sought, at_end, refused, entries_from, entries_left}
use Rattle.walk.specs.Step.{StepResult, belongs, cursor_left, cursor_step, cell_reply, cell_result}
use Rattle.walk.proofs.InOrder.{ReadLeft, read_left, entries_scaled}
use Rattle.exports.specs.Checksum.{add_cell, add_cells, with_number}
use Rattle.exports.specs.Reads.{CellsRead, ended, and_then, cell_reads}
use Rattle.exports.specs.Loops.{rows_in, cells_from, sum_then, number_in}

-- with an answer and the cursor d after it: the cell and what reads from d on come to, or the end of them
abbrev CellsLeft : BinTable → List ℕ → Reading → CellsRead → Reply → TableData → Type 0
CellsLeft l a m o (got_cell x) d = o ≡ and_then (x ∷ []) (cells_from l a m d)
CellsLeft l a m o (got_row k) d = o ≡ ended 0
CellsLeft l a m o sought d = o ≡ ended 0
CellsLeft l a m o at_end d = o ≡ ended 0
CellsLeft l a m o (refused n p) d = o ≡ ended n

-- an answer that is no cell
abbrev NoCell : Result (Option Cell) Refusal → Type 0
NoCell r = (x : Cell) → r ≡ Ok (Some x) → ⊥

none_left : (l : BinTable) (a : List ℕ) (m : Reading) (o : CellsRead) (r : Result (Option Cell) Refusal) (d : TableData) → NoCell r
    → CellsLeft l a m o (cell_reply r) d → o ≡ ended (number_in r)
none_left l a m o (Ok (Some x)) d k h = absurd (k x refl)
none_left l a m o (Ok None) d k h = h
none_left l a m o (Err q) d k h = h

-- the entries that are left of the rows in the second reading are the plain ones, scaled
left_scaled : (l : BinTable) (rows : ℕ → List Entry) (n k r p : ℕ)
    → entries_left (in_reading l Scaled rows) n k r p ≡ map (scaled_entry l) (entries_left rows n k r p)
left_scaled l rows n zero r p = refl
left_scaled l rows n (suc k) r p =
    let rest = map-append (scaled_entry l) (drop p (rows r)) (entries_from rows n (suc r) k) in
    rw (drop-map (scaled_entry l) p (rows r), entries_scaled l rows n (suc r) k, rest)

module _ (l : BinTable) (a : List ℕ) (c : TableData) where
  -- those from a cursor on
  scaled_left : (d : TableData)
      → entries_left (rows_in l a Scaled d) l.naxis2 (l.naxis2 - d.row) d.row d.passed ≡ map (scaled_entry l) (cursor_left l a d)
  scaled_left d = left_scaled l (row_entries l a d.choice d.heap) l.naxis2 (l.naxis2 - d.row) d.row d.passed

  -- a plain read's answer
  by_reply : (es : List Entry) (q : Reply) (d : TableData) → ReadLeft l a c es q d
      → CellsLeft l a Plain (cell_reads es) q d
  unfolding cell_reads cells_from
  by_reply es (got_cell x) d h = rw (h.0, h.1.0)
  by_reply es (got_row k) d h = absurd h
  by_reply es sought d h = absurd h
  by_reply es at_end d h = rw h.0
  by_reply es (refused m p) d h = rw (h.1.1, h.0)

  -- that of a scaled one
  by_scaled : (es : List Entry) (q : Reply) (d : TableData) → ReadLeft l a c es q d
      → CellsLeft l a Scaled (cell_reads (map (scaled_entry l) es)) (scaled_reply l q) d
  unfolding cell_reads cells_from
  by_scaled es (got_cell x) d h = rw (h.0, h.1.0, scaled_left d)
  by_scaled es (got_row k) d h = absurd h
  by_scaled es sought d h = absurd h
  by_scaled es at_end d h = rw h.0
  by_scaled es (refused m p) d h = rw (h.1.1, h.0)

  in_left : (m : Reading) (q : StepResult) → belongs l a c ≡ true → ReadLeft l a c (cursor_left l a c) q.reply q.cursor
      → CellsLeft l a m (cells_from l a m c) (in_result l m q).reply (in_result l m q).cursor
  unfolding cells_from
  in_left Plain q b h = rw b (by_reply (cursor_left l a c) q.reply q.cursor h)
  in_left Scaled q b h = rw (b, scaled_left c) (by_scaled (cursor_left l a c) q.reply q.cursor h)

  abbrev Left : How → Type 0
  Left how = let o = cursor_step l a c (read_cell how) in CellsLeft l a how.reading (cells_from l a how.reading c) o.reply o.cursor

  left_refused : (how : How) → belongs l a c ≡ false → Left how
  unfolding cursor_step cells_from
  left_refused how b = rw b

  left_is : (how : How) → Left how
  left_is how =
      either (belongs l a c)
      (λ b.
      rw (step_in l a c (read_cell how)) (in_left how.reading (cursor_step l a c (read_cell plain)) b (read_left l a c b)))
      (left_refused how)

-- a turn of the loop: what the read returned, the sum so far, and what is returned in the end
module _ (l : BinTable) (a : List ℕ) (c : TableData) (how : How) (r : Stepped (Option Cell))
    (read : cell_result r.cursor r.answer ≡ cursor_step l a c (read_cell how)) where
  abbrev from : TableData → CellsRead
  from d = cells_from l a how.reading d

  left : CellsLeft l a how.reading (from c) (cell_reply r.answer) r.cursor
  left = subst (λ (o : StepResult). CellsLeft l a how.reading (from c) o.reply o.cursor) (sym read) (left_is l a c how)

  more : (x : Cell) → r.answer ≡ Ok (Some x) → from c ≡ and_then (x ∷ []) (from r.cursor)
  more x e = rw e at left

  -- of a cell
  pub cell_added : (s t : ℕ) (x : Cell) → r.answer ≡ Ok (Some x) → sum_then s (from c) ≡ t
      → sum_then (add_cell s x) (from r.cursor) ≡ t
  unfolding add_cells
  cell_added s t x e same = subst (λ (o : CellsRead). sum_then s o ≡ t) (more x e) same

  pub cell_fewer : (x : Cell) → r.answer ≡ Ok (Some x)
      → length (from r.cursor).cells < length (from c).cells
  cell_fewer x e = omega (arith, ap (λ (o : CellsRead). length o.cells) (more x e))

  -- of any other answer
  pub cells_ended : (s t : ℕ) → NoCell r.answer → sum_then s (from c) ≡ t
      → with_number (number_in r.answer) s ≡ t
  unfolding add_cells
  cells_ended s t k same =
      subst (λ (o : CellsRead). sum_then s o ≡ t) (none_left l a how.reading _ r.answer r.cursor k left) same
