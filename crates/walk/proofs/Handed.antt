-- What holds of every cell of the plain lists holds of every cell that a step hands out.
-- Assumes nothing.
use Prim.Native.Nat.{ℕ, zero, suc, ◌+◌, ◌≤◌, ◌<◌}
use mathlib.Core.Path.{◌≡◌}
use mathlib.Core.Bool.{Bool, true}
use mathlib.Core.List.{List, [], ◌∷◌, ◌++◌, map}
use native.Mathlib.Omega.{arith}
use lib.Dec.{leb, ltb}
use lib.ListN.{length, get_or, take, drop}
use lib.Seq.{take-append_seam}
use borrow.Author.Tests.{ltb-true}
use Rattle.ascii.proofs.Cases.{by_test}
use Rattle.layout.specs.declared.BinTable.{BinTable}
use Rattle.cell.specs.declared.DataValue.{DataValue}
use Rattle.cell.specs.declared.Cell.{Cell}
use Rattle.walk.specs.declared.TableData.{TableData}
use Rattle.walk.specs.declared.Entry.{Entry}
use Rattle.walk.specs.declared.Entry.TheVariants as E
use Rattle.walk.specs.declared.How.{How}
use Rattle.walk.specs.declared.Reading.{Reading}
use Rattle.walk.specs.declared.Reading.TheVariants.{Plain, Scaled}
use Rattle.walk.specs.Scaled.{scaled_cell, scaled_entry, in_reading}
use Rattle.walk.specs.Plain.{column_of, field_of, cell_of, cells, entries_of, chosen, column_entries, columns_entries, row_entries}
use Rattle.walk.specs.Walk.{Step, read_cell, read_row, seek, State, Outcome, Reply, got_cell, got_row, sought, at_end, refused, Next, entry_at, no_entry, Gathered, all_cells, outside, before, gather, next, next_entry, rest, cell_outcome, row_outcome, walk_step}
use Rattle.walk.specs.Readings.{reading_of}
use Rattle.walk.specs.Step.{belongs, state_of, StepResult, cursor_step}

module _ (P : Cell → Type 0) where
  abbrev OfEntry : Entry → Type 0
  OfEntry (E.Cell c) = P c
  OfEntry (E.OutsideHeap k) = Unit {0}

  -- P of each cell among some entries
  abbrev pub OfEntries : List Entry → Type 0
  OfEntries [] = Unit {0}
  OfEntries (e ∷ es) = OfEntry e × OfEntries es

  -- and of each of some cells
  abbrev pub OfCells : List Cell → Type 0
  OfCells [] = Unit {0}
  OfCells (c ∷ cs) = P c × OfCells cs

  -- P of the cells that a step hands out: the one of its answer, or those at the front of the list
  abbrev pub OfReply : List Cell → Reply → Type 0
  OfReply list (got_cell c) = P c
  OfReply list (got_row k) = OfCells (take k list)
  OfReply list sought = Unit {0}
  OfReply list at_end = Unit {0}
  OfReply list (refused n p) = Unit {0}

  -- ---- the plain list

  append_all : (es fs : List Entry) → OfEntries es → OfEntries fs → OfEntries (es ++ fs)
  append_all [] fs h k = k
  append_all (e ∷ es) fs h k = (h.0, append_all es fs h.1 k)

  pub cells_all : (r c : ℕ) (v : ℕ → DataValue) (i n : ℕ) → ((k : ℕ) → i ≤ k → k < i + n → P (cell_of r c k (v k))) → OfEntries (cells r c v i n)
  unfolding cells
  cells_all r c v i zero h = tt
  cells_all r c v i (suc n) h = (h i (omega arith) (omega arith), cells_all r c v (suc i) n (λ k u w. h k (omega arith) (omega arith)))

  module _ (l : BinTable) (a : List ℕ) (choice : ℕ) (heap : Bool)
      (each : (r c : ℕ) → r < l.naxis2 → c < l.tfields → chosen choice c ≡ true → OfEntries (entries_of (column_of l c) a r c (field_of l a heap r c))) where
    columns_all : (r c n : ℕ) → r < l.naxis2 → c + n ≤ l.tfields → OfEntries (columns_entries l a choice heap r c n)
    unfolding columns_entries column_entries
    columns_all r c zero hr h = tt
    columns_all r c (suc n) hr h =
        append_all (column_entries l a choice heap r c) (columns_entries l a choice heap r (suc c) n)
        (by_test OfEntries (chosen choice c) (λ t. each r c hr (omega arith) t) (λ t. tt))
        (columns_all r (suc c) n hr (omega arith))

    -- from the fields to the rows
    pub rows_all : (r : ℕ) → OfEntries (row_entries l a choice heap r)
    unfolding row_entries
    rows_all r = by_test OfEntries (ltb r l.naxis2) (λ t. columns_all r 0 l.tfields (ltb-true r l.naxis2 t) (omega arith)) (λ t. tt)

  -- ---- the walk

  get_d_all : (es : List Entry) (k : ℕ) (d : Entry) → OfEntries es → OfEntry d → OfEntry (get_or es k d)
  get_d_all [] k d h q = q
  get_d_all (e ∷ es) zero d h q = h.0
  get_d_all (e ∷ es) (suc k) d h q = get_d_all es k d h.1 q

  drop_all : (k : ℕ) (es : List Entry) → OfEntries es → OfEntries (drop k es)
  drop_all zero es h = h
  drop_all (suc k) [] h = tt
  drop_all (suc k) (e ∷ es) h = drop_all k es h.1

  abbrev OfGathered : Gathered → Type 0
  OfGathered (all_cells cs) = OfCells cs
  OfGathered (outside k) = Unit {0}

  before_all : (c : Cell) (g : Gathered) → P c → OfGathered g → OfGathered (before c g)
  before_all c (all_cells cs) h k = (h, k)
  before_all c (outside k) h q = tt

  gather_all : (es : List Entry) → OfEntries es → OfGathered (gather es)
  unfolding gather
  gather_all [] h = tt
  gather_all (E.OutsideHeap k ∷ es) h = tt
  gather_all (E.Cell c ∷ es) h = before_all c (gather es) h.0 (gather_all es h.1)

  abbrev OfOutcome : Outcome → Type 0
  OfOutcome o = OfReply o.list o.reply

  module _ (rows : ℕ → List Entry) (n : ℕ) (all : (r : ℕ) → OfEntries (rows r)) where
    abbrev OfNext : Next → Type 0
    OfNext no_entry = Unit {0}
    OfNext (entry_at r p e) = OfEntry e

    next_all : (k r p : ℕ) → OfNext (next rows n k r p)
    unfolding next
    next_all zero r p = tt
    next_all (suc k) r p =
        by_test OfNext (ltb p (length (rows r))) (λ t. get_d_all (rows r) p (E.OutsideHeap 0) (all r) tt) (λ t. next_all k (suc r) _)

    cell_all : (s : State) (how : How) (x : Next) → OfNext x → OfOutcome (cell_outcome rows n s how x)
    cell_all s how no_entry h = tt
    cell_all s how (entry_at r p (E.Cell c)) h = h
    cell_all s how (entry_at r p (E.OutsideHeap k)) h = tt

    row_all : (s : State) (how : How) (list : List Cell) (g : Gathered) → OfGathered g → OfOutcome (row_outcome rows n s how list g)
    row_all s how list (outside k) h = tt
    row_all s how list (all_cells cs) h =
        by_test OfOutcome (leb (length cs) (length list)) (λ t. rw (take-append_seam cs (drop (length cs) list)) h) (λ t. tt)

    next_entry_all : (s : State) (how : How) → OfOutcome (cell_outcome rows n s how (next_entry rows n s))
    next_entry_all s how = cell_all s how (next_entry rows n s) (next_all _ s.row s.passed)

    rest_all : (s : State) (how : How) (list : List Cell) → OfOutcome (row_outcome rows n s how list (rest rows n s))
    rest_all s how list =
        row_all s how list (rest rows n s) (gather_all (drop s.passed (rows s.row)) (drop_all s.passed (rows s.row) (all s.row)))

  walk_all : (l : BinTable) (rows : ℕ → List Entry) (n : ℕ) (s : State) (x : Step) → ((r : ℕ) → OfEntries (in_reading l (reading_of x) rows r))
      → OfOutcome (walk_step l rows n s x)
  unfolding walk_step
  walk_all l rows n s (read_cell how) all = next_entry_all (in_reading l how.reading rows) n all s how
  walk_all l rows n s (read_row how list) all =
      by_test OfOutcome (ltb s.row n) (λ t. rest_all (in_reading l how.reading rows) n all s how list) (λ t. tt)
  walk_all l rows n s (seek r) all = by_test OfOutcome (ltb r n) (λ t. tt) (λ t. tt)

  -- of every step of a cursor, whatever layout, area and cursor
  pub step_all : (l : BinTable) (a : List ℕ) (c : TableData) (x : Step)
      → ((r : ℕ) → OfEntries (in_reading l (reading_of x) (row_entries l a c.choice c.heap) r))
      → OfReply (cursor_step l a c x).list (cursor_step l a c x).reply
  unfolding cursor_step
  step_all l a c x all =
      by_test (λ (o : StepResult). OfReply o.list o.reply) (belongs l a c)
      (λ t. walk_all l (row_entries l a c.choice c.heap) l.naxis2 (state_of c) x all) (λ t. tt)

-- what holds of the plain cells, and what then holds of the scaled ones: of the rows in a reading
in_reading_all : (P Q : Cell → Type 0) (l : BinTable) → ((c : Cell) → P c → Q (scaled_cell l c)) → (es : List Entry)
    → OfEntries P es → OfEntries Q (map (scaled_entry l) es)
in_reading_all P Q l f [] h = tt
in_reading_all P Q l f (E.Cell c ∷ es) h = (f c h.0, in_reading_all P Q l f es h.1)
in_reading_all P Q l f (E.OutsideHeap k ∷ es) h = (tt, in_reading_all P Q l f es h.1)

-- a property of the reading's own
pub rows_in : (P : Reading → Cell → Type 0) (l : BinTable) (rows : ℕ → List Entry) → ((c : Cell) → P Plain c → P Scaled (scaled_cell l c))
    → ((r : ℕ) → OfEntries (P Plain) (rows r)) → (m : Reading) (r : ℕ) → OfEntries (P m) (in_reading l m rows r)
rows_in P l rows f all Plain r = all r
rows_in P l rows f all Scaled r = in_reading_all (P Plain) (P Scaled) l f (rows r) (all r)

-- what follows from a property of a cell, of the cells that a step hands out
module _ (P Q : Cell → Type 0) (f : (c : Cell) → P c → Q c) where
  cells_imply : (cs : List Cell) → OfCells P cs → OfCells Q cs
  cells_imply [] h = tt
  cells_imply (c ∷ cs) h = (f c h.0, cells_imply cs h.1)

  pub reply_implies : (list : List Cell) (y : Reply) → OfReply P list y → OfReply Q list y
  reply_implies list (got_cell c) h = f c h
  reply_implies list (got_row k) h = cells_imply (take k list) h
  reply_implies list sought h = tt
  reply_implies list at_end h = tt
  reply_implies list (refused n p) h = tt
