-- Cell reads from the start, in either reading, hand out the entries of all rows in their order: none is passed over, none comes twice, and the end
-- comes after the last.
-- Assumes nothing.
use Prim.Native.Nat.{ℕ, zero, suc, ◌+◌, ◌-◌, ◌<◌, min}
use mathlib.Core.Path.{◌≡◌, refl, sym, ap, ◌∙◌}
use mathlib.Core.Bool.{true, ◌&&◌}
use mathlib.Core.List.{List, [], ◌∷◌, map, map-append}
use native.Mathlib.Omega.{arith}
use lib.Dec.{ltb}
use lib.ListN.{length, replicate, drop_of_length-le}
use lib.Seq.{drop-cons}
use borrow.Author.Tests.{ltb-true, ltb-false}
use Rattle.ascii.proofs.Cases.{by_test, both}
use Rattle.layout.specs.declared.BinTable.{BinTable}
use Rattle.walk.specs.declared.TableData.{TableData}
use Rattle.walk.specs.declared.Entry.{Entry}
use Rattle.walk.specs.declared.Entry.TheVariants as E
use Rattle.walk.specs.Plain.{row_entries}
use Rattle.walk.specs.declared.Reading.TheVariants.{Scaled}
use Rattle.walk.specs.declared.How.{How}
use Rattle.walk.specs.Scaled.{scaled_entry, in_reading, plain, scaled}
use Rattle.walk.specs.Walk.{read_cell, State, Outcome, Reply, got_cell, got_row, sought, at_end, refused, start, stop, place_ok, placed, grown, pass, Next, entry_at, no_entry, next, next_entry, cell_outcome, entries_from, entries_left, walk_step, walk}
use Rattle.walk.specs.Readings.{in_result}
use Rattle.walk.specs.Step.{fits, choice_ok, belongs, state_of, cursor_at, cursor_left, StepResult, cursor_step}
use Rattle.walk.proofs.Follows.{ok_start, ok_inside}
use Rattle.walk.proofs.Steps.{cell_at}
use Rattle.walk.proofs.Readings.{step_in, cursor_in}

-- the answers of m cell reads of some entries: each cell, then the end; a 13 again and again
abbrev pub answers_to : ℕ → List Entry → List Reply
answers_to zero es = []
answers_to (suc m) [] = at_end ∷ answers_to m []
answers_to (suc m) (E.Cell c ∷ es) = got_cell c ∷ answers_to m es
answers_to (suc m) (E.OutsideHeap k ∷ es) = refused 13 k ∷ answers_to m (E.OutsideHeap k ∷ es)

module _ (rows : ℕ → List Entry) (n : ℕ) where
  pub left_start : (k r : ℕ) → entries_left rows n k r 0 ≡ entries_from rows n r k
  unfolding entries_from
  left_start zero r = refl
  left_start (suc k) r = refl

  -- what the next entry says of the entries that are left
  abbrev Heads : Next → List Entry → Type 0
  Heads no_entry es = es ≡ []
  Heads (entry_at r p e) es = (r < n) × (es ≡ e ∷ entries_left rows n (n - r) r (suc p))

  heads : (k r p : ℕ) → k ≡ n - r → Heads (next rows n k r p) (entries_left rows n k r p)
  unfolding next
  heads zero r p h = refl
  heads (suc k) r p h =
      by_test (λ (x : Next). Heads x (entries_left rows n (suc k) r p)) (ltb p (length (rows r)))
      (λ t. (omega arith, rw (← h, drop-cons (rows r) p (E.OutsideHeap 0) (ltb-true p _ t))))
      (λ t.
      rw (drop_of_length-le (rows r) {i = p} (ltb-false p _ t), ← left_start k (suc r)) (heads k (suc r) 0 (omega arith)))

  -- what is left after an entry is passed
  passed : (s : State) (r p : ℕ) → r < n
      → let t = pass s (length (rows r)) r p in entries_left rows n (n - t.row) t.row t.passed ≡ entries_left rows n (n - r) r (suc p)
  passed s r p h =
      let e : n - r ≡ suc (n - suc r) = omega arith in
      by_test (λ (t : State). entries_left rows n (n - t.row) t.row t.passed ≡ entries_left rows n (n - r) r (suc p)) (ltb (suc p) (length (rows r)))
      (λ t. refl)
      (λ t. rw (e, drop_of_length-le (rows r) {i = suc p} (ltb-false (suc p) _ t)) (left_start (n - suc r) (suc r)))

  abbrev pub left_of : State → List Entry
  left_of s = entries_left rows n (n - s.row) s.row s.passed

-- the cell reads of one reading
module _ (l : BinTable) (how : How) (rows : ℕ → List Entry) (n : ℕ) where
  -- the rows as they are read
  abbrev seen : ℕ → List Entry
  seen = in_reading l how.reading rows

  -- the answers of m cell reads from what is kept s on
  abbrev pub replies_from : ℕ → State → List Reply
  replies_from m s = map (λ (o : Outcome). o.reply) (walk l rows n s (replicate m (read_cell how)))

  one : (m : ℕ) (s : State) → ((t : State) → replies_from m t ≡ answers_to m (left_of seen n t)) → (x : Next) (es : List Entry)
      → es ≡ left_of seen n s → Heads seen n x es
      → ((cell_outcome seen n s how x).reply ∷ replies_from m (cell_outcome seen n s how x).state) ≡ answers_to (suc m) es
  one m s ih no_entry es q h =
      let e : n - n ≡ 0 = omega arith in
      rw h (ap (λ (rs : List Reply). at_end ∷ rs) (ih (placed s n 0) ∙ rw e))
  one m s ih (entry_at r p (E.Cell c)) es q h =
      let t : State = grown s (read_cell how) 1 in
      rw h.1 (ap (λ (rs : List Reply). got_cell c ∷ rs) (ih (pass t (length (seen r)) r p) ∙ ap (answers_to m) (passed seen n t r p h.0)))
  one m s ih (entry_at r p (E.OutsideHeap k)) es q h =
      rw h.1 (ap (λ (rs : List Reply). refused 13 k ∷ rs) (ih s ∙ ap (answers_to m) (sym q ∙ h.1)))

  reads : (m : ℕ) (s : State) → replies_from m s ≡ answers_to m (left_of seen n s)
  unfolding walk walk_step
  reads zero s = refl
  reads (suc m) s =
      one m s (λ t. reads m t) (next_entry seen n s) (left_of seen n s) refl (heads seen n (n - s.row) s.row s.passed refl)

  -- any number of cell reads from the start, in either reading
  pub cell_reads : (m : ℕ) → replies_from m start ≡ answers_to m (entries_from seen n 0 n)
  cell_reads m =
      let e : n - 0 ≡ n = omega arith in
      reads m start ∙ ap (answers_to m) (left_start seen n (n - 0) 0 ∙ rw e)

-- the entries of the rows in the second reading are the plain ones, scaled
pub entries_scaled : (l : BinTable) (rows : ℕ → List Entry) (n r k : ℕ)
    → entries_from (in_reading l Scaled rows) n r k ≡ map (scaled_entry l) (entries_from rows n r k)
unfolding entries_from
entries_scaled l rows n r zero = refl
entries_scaled l rows n r (suc k) =
    rw (entries_scaled l rows n (suc r) k, map-append (scaled_entry l) (rows r) (entries_from rows n (suc r) k))

-- any number of scaled cell reads from the start
pub scaled_reads : (l : BinTable) (rows : ℕ → List Entry) (n m : ℕ)
    → replies_from l scaled rows n m start ≡ answers_to m (map (scaled_entry l) (entries_from rows n 0 n))
scaled_reads l rows n m = cell_reads l scaled rows n m ∙ ap (answers_to m) (entries_scaled l rows n 0 n)

-- ---- a cell read of a cursor

-- what its answer says of the entries es that were left at cursor c, with d the cursor after it
abbrev pub ReadLeft : BinTable → List ℕ → TableData → List Entry → Reply → TableData → Type 0
ReadLeft l a c es (got_cell x) d = (es ≡ E.Cell x ∷ cursor_left l a d) × ((belongs l a d ≡ true) × (d.count ≡ min stop (c.count + 1)))
ReadLeft l a c es (got_row k) d = ⊥
ReadLeft l a c es sought d = ⊥
ReadLeft l a c es at_end d = (es ≡ []) × (d.count ≡ c.count)
ReadLeft l a c es (refused m p) d = (m ≡ 13) × ((rest : List Entry) × (es ≡ E.OutsideHeap p ∷ rest))

module _ (l : BinTable) (a : List ℕ) (c : TableData) (fit : belongs l a c ≡ true) where
  -- another place and count of the same cursor
  at_place : (s : State) → place_ok (row_entries l a c.choice c.heap) l.naxis2 s.row s.passed ≡ true
      → belongs l a (cursor_at c.choice c.heap s) ≡ true
  unfolding belongs
  at_place s h =
      let place = place_ok (row_entries l a c.choice c.heap) l.naxis2 c.row c.passed in
      let fitting = both (fits l a) (choice_ok l c.choice && place) fit in
      rw (fitting.0, (both (choice_ok l c.choice) place fitting.1).0, h)

  by_next : (x : Next) → Heads (row_entries l a c.choice c.heap) l.naxis2 x (cursor_left l a c)
      → let o = cell_outcome (row_entries l a c.choice c.heap) l.naxis2 (state_of c) plain x in
      ReadLeft l a c (cursor_left l a c) o.reply (cursor_at c.choice c.heap o.state)
  by_next no_entry h = (h, refl)
  by_next (entry_at r p (E.OutsideHeap k)) h = (refl, (entries_left (row_entries l a c.choice c.heap) l.naxis2 (l.naxis2 - r) r (suc p), h.1))
  by_next (entry_at r p (E.Cell y)) h =
      let rows = row_entries l a c.choice c.heap in
      let n = l.naxis2 in
      let s : State = grown (state_of c) (read_cell plain) 1 in (
        h.1 ∙ ap (λ (es : List Entry). E.Cell y ∷ es) (sym (passed rows n s r p h.0)),
        by_test (λ (t : State). (belongs l a (cursor_at c.choice c.heap t) ≡ true) × (t.count ≡ min stop (c.count + 1))) (ltb (suc p) (length (rows r)))
            (λ e. (at_place (placed s r (suc p)) (ok_inside rows n r (suc p) h.0 (ltb-true _ _ e)), refl))
            (λ e. (at_place (placed s (suc r) 0) (ok_start rows n (suc r) h.0), refl)),
      )

  pub read_left : ReadLeft l a c (cursor_left l a c) (cursor_step l a c (read_cell plain)).reply (cursor_step l a c (read_cell plain)).cursor
  read_left =
      let rows = row_entries l a c.choice c.heap in
      let n = l.naxis2 in
      rw (cell_at l a c fit (next rows n (n - c.row) c.row c.passed) refl)
      (by_next (next rows n (n - c.row) c.row c.passed) (heads rows n (n - c.row) c.row c.passed refl))

  -- a read in either reading leaves the same, and answers the plain read's cell in its reading
  pub read_left_in : (how : How) → let o = cursor_step l a c (read_cell how) in let q = cursor_step l a c (read_cell plain) in
      ReadLeft l a c (cursor_left l a c) q.reply o.cursor × (o.reply ≡ (in_result l how.reading q).reply)
  read_left_in how =
      (rw (cursor_in l a c (read_cell how)) read_left, ap (λ (o : StepResult). o.reply) (step_in l a c (read_cell how)))
