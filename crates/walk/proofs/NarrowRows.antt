-- A row read of a narrow choice beside a row read of all columns, at the start of the same row of one table that the
-- entry accepts: where the read of all columns hands out the row's cells, that of the choice hands out those of the
-- wanted columns, in either reading.
-- Assumes nothing.
use Prim.Native.Nat.{ℕ, ◌≤◌, ◌<◌}
use mathlib.Core.Path.{◌≡◌, refl, sym, ap, ◌∙◌}
use mathlib.Core.Bool.{Bool, true, false}
use mathlib.Core.List.{List, [], ◌∷◌, ◌++◌}
use native.Mathlib.Omega.{arith}
use lib.Dec.{leb}
use lib.ListN.{length, take, drop}
use lib.Seq.{take-append_seam}
use borrow.Author.Tests.{lt-ltb, le-leb}
use Rattle.ascii.proofs.Cases.{either}
use Rattle.bintable.specs.Entry.{accepted, entry}
use Rattle.layout.specs.declared.BinTable.{BinTable}
use Rattle.cell.specs.declared.Cell.{Cell}
use Rattle.walk.specs.declared.TableData.{TableData}
use Rattle.walk.specs.declared.Entry.{Entry}
use Rattle.walk.specs.declared.Entry.TheVariants as E
use Rattle.walk.specs.declared.How.{How}
use Rattle.walk.specs.Plain.{row_entries}
use Rattle.walk.specs.Scaled.{in_reading}
use Rattle.walk.specs.Walk.{read_row, got_row, refused, State}
use Rattle.walk.specs.Walk.{Gathered, all_cells, outside, before, gather, row_outcome, walk_step}
use Rattle.walk.specs.Step.{belongs, cursor_at, Selection, all_columns, wanted, choice_of}
use Rattle.walk.specs.Step.{opened, open_with, with_cursor, StepResult, cursor_step}
use Rattle.walk.specs.Narrow.{struck, struck_cells}
use Rattle.walk.proofs.Isolation.{entry_fits}
use Rattle.walk.proofs.Follows.{ok_start, refusal_number}
use Rattle.walk.proofs.Narrow.{narrow_list}
use Rattle.walk.proofs.NarrowReads.{opened_at}

-- ---- what some entries gather to

module _ (keep : ℕ → Bool) where
  -- what a list gathers to, and what it does with some columns struck out
  abbrev Narrowed : Gathered → Gathered → Type 0
  Narrowed (all_cells xs) g = g ≡ all_cells (struck_cells keep xs)
  Narrowed (outside k) g = keep k ≡ true → g ≡ outside k

  before_stays : (x : Cell) (g u : Gathered) → keep x.column ≡ true → Narrowed g u → Narrowed (before x g) (before x u)
  before_stays x (all_cells xs) u t h = rw (t, h)
  before_stays x (outside k) u t h = λ q. rw (h q)

  before_goes : (x : Cell) (g u : Gathered) → keep x.column ≡ false → Narrowed g u → Narrowed (before x g) u
  before_goes x (all_cells xs) u t h = rw t h
  before_goes x (outside k) u t h = h

  narrowed : (es : List Entry) → Narrowed (gather es) (gather (struck keep es))
  unfolding gather
  narrowed [] = refl
  narrowed (E.Cell x ∷ es) =
      either (keep x.column)
      (λ t. rw t (before_stays x (gather es) (gather (struck keep es)) t (narrowed es)))
      (λ t. rw t (before_goes x (gather es) (gather (struck keep es)) t (narrowed es)))
  narrowed (E.OutsideHeap k ∷ es) = λ t. rw t

  -- without a 13: the cells, struck out
  gather_narrow : (es : List Entry) (xs : List Cell) → gather es ≡ all_cells xs
      → gather (struck keep es) ≡ all_cells (struck_cells keep xs)
  gather_narrow es xs e = rw e at (narrowed es)

  -- a first 13 of a column that stays stays the first
  gather_outside : (es : List Entry) (k : ℕ) → gather es ≡ outside k → keep k ≡ true
      → gather (struck keep es) ≡ outside k
  gather_outside es k e t = (rw e at (narrowed es)) t

-- ---- what the answer of a row read says of the entries that were left in the row

module _ (rows : ℕ → List Entry) (n : ℕ) (s : State) (how : How) (list : List Cell) where
  -- a number: the list then begins with so many cells, which are all that was left
  row_stored : (g : Gathered) (k : ℕ) → let o = row_outcome rows n s how list g in o.reply ≡ got_row k
      → (g ≡ all_cells (take k o.list)) × (length (take k o.list) ≡ k)
  row_stored (outside j) k e = absurd cc
  row_stored (all_cells xs) k e =
      either (leb (length xs) (length list)) (λ t. fits_in t (rw t at e)) (λ t. absurd (too_long (rw t at e)))
    where
      fits_in : leb (length xs) (length list) ≡ true → got_row (length xs) ≡ got_row k
          → let o = row_outcome rows n s how list (all_cells xs) in
          (all_cells xs ≡ all_cells (take k o.list)) × (length (take k o.list) ≡ k)
      fits_in t q =
          let w : length xs ≡ k = cc in
          rw (t, ← w, take-append_seam xs (drop (length xs) list)) (refl, refl)

      too_long : refused 14 (length xs) ≡ got_row k → ⊥
      too_long q = cc

  -- a 13: it was the first that was left
  first_out : (g : Gathered) (k : ℕ) → (row_outcome rows n s how list g).reply ≡ refused 13 k → g ≡ outside k
  first_out (outside j) k e = let w : j ≡ k = cc in ap outside w
  first_out (all_cells xs) k e =
      either (leb (length xs) (length list)) (λ t. absurd (number (rw t at e))) (λ t. absurd (other (rw t at e)))
    where
      number : got_row (length xs) ≡ refused 13 k → ⊥
      number q = cc

      other : refused 14 (length xs) ≡ refused 13 k → ⊥
      other q = let w : ◌≡◌ {A = ℕ} 14 13 = ap refusal_number q in omega (arith, w)

-- ---- the row reads of two cursors

-- at the start of row r, with i cells handed out so far
abbrev pub at_row : ℕ → ℕ → State
at_row r i = record { row = r; passed = 0; count = i }

-- a row read of the cursor on a selection there
abbrev pub row_read : BinTable → List ℕ → Selection → Bool → How → State → List Cell → StepResult
row_read l a sel heap how s list = cursor_step l a (cursor_at (choice_of l sel) heap s) (read_row how list)

module _ (h a : List ℕ) (l : BinTable) (e : entry h a ≡ accepted l) (sel : Selection) (heap : Bool) (c : TableData)
    (o : open_with l a sel heap ≡ opened c) (how : How) (r : ℕ) (low : r < l.naxis2) where
  abbrev rows : ℕ → List Entry
  rows = row_entries l a (choice_of l sel) heap

  abbrev seen : ℕ → List Entry
  seen = in_reading l how.reading rows

  -- it is what the row's list gathers to, whatever the count so far
  gathers : (i : ℕ) (list : List Cell)
      → row_read l a sel heap how (at_row r i) list
      ≡ with_cursor (choice_of l sel) heap (row_outcome seen l.naxis2 (at_row r i) how list (gather (seen r)))
  unfolding cursor_step walk_step belongs
  gathers i list =
      rw (
        entry_fits h a l e,
        (opened_at h a l e sel heap c o).0,
        ok_start rows l.naxis2 r (omega (arith, low)),
        lt-ltb r l.naxis2 low,
      )

  -- so it stores cells that there is room for
  stores : (i : ℕ) (list xs : List Cell) → gather (seen r) ≡ all_cells xs → length xs ≤ length list
      → ((row_read l a sel heap how (at_row r i) list).reply ≡ got_row (length xs))
      × ((row_read l a sel heap how (at_row r i) list).list ≡ xs ++ drop (length xs) list)
  stores i list xs g room = rw (gathers i list, g, le-leb (length xs) (length list) room) (refl, refl)

module _ (h a : List ℕ) (l : BinTable) (e : entry h a ≡ accepted l) (sel : Selection) (heap : Bool) (c d : TableData)
    (oc : open_with l a sel heap ≡ opened c) (od : open_with l a all_columns heap ≡ opened d) (how : How) (r : ℕ)
    (low : r < l.naxis2) where
  -- the lists of all columns, and that of the row in the choice
  abbrev full_rows : ℕ → List Entry
  full_rows = in_reading l how.reading (row_entries l a (choice_of l all_columns) heap)

  row : in_reading l how.reading (row_entries l a (choice_of l sel) heap) r ≡ struck (wanted sel) (full_rows r)
  row = (narrow_list h a l sel heap e).row how.reading r

  -- where the read of all columns, into any list u, answers a number n, the front of u holds n cells, and the read of
  -- the choice, into any list v with room for those of wanted columns among them, stores just these at the front of v
  pub narrow_row : (i j : ℕ) (u v : List Cell) (n : ℕ)
      → let all = row_read l a all_columns heap how (at_row r i) u in
      let some = row_read l a sel heap how (at_row r j) v in
      let xs = take n all.list in
      let ys = struck_cells (wanted sel) xs in
      all.reply ≡ got_row n → length ys ≤ length v
      → (length xs ≡ n) × ((some.reply ≡ got_row (length ys)) × (some.list ≡ ys ++ drop (length ys) v))
  narrow_row i j u v n q room =
      let all = gathers h a l e all_columns heap d od how r low i u in
      let said = sym (ap (λ (o : StepResult). o.reply) all) ∙ q in
      let g = row_stored full_rows l.naxis2 (at_row r i) how u (gather (full_rows r)) n said in
      let front = ap (λ (o : StepResult). take n o.list) all in
      let xs = take n (row_read l a all_columns heap how (at_row r i) u).list in (
        ap length front ∙ g.1,
        stores h a l e sel heap c oc how r low j v (struck_cells (wanted sel) xs)
            (ap gather row ∙ gather_narrow (wanted sel) (full_rows r) xs (g.0 ∙ ap all_cells (sym front))) room,
      )

  -- where it answers the 13 of a wanted column, so does the read of the choice
  pub narrow_row_13 : (i j : ℕ) (u v : List Cell) (k : ℕ) → wanted sel k ≡ true
      → (row_read l a all_columns heap how (at_row r i) u).reply ≡ refused 13 k
      → (row_read l a sel heap how (at_row r j) v).reply ≡ refused 13 k
  narrow_row_13 i j u v k w q =
      let all = gathers h a l e all_columns heap d od how r low i u in
      let said = sym (ap (λ (o : StepResult). o.reply) all) ∙ q in
      let g = first_out full_rows l.naxis2 (at_row r i) how u (gather (full_rows r)) k said in
      rw (gathers h a l e sel heap c oc how r low j v, row, gather_outside (wanted sel) (full_rows r) k g w)
