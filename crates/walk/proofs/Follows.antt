-- The plain walk keeps a place that belongs and counts the cells that it hands out. So a cursor that starts where the walk does never gets
-- a 10, and shows what the walk gives.
-- Assumes nothing.
use Prim.Native.Nat.{ℕ, suc, ◌+◌, ◌≤◌, ◌<◌, min}
use mathlib.Core.Path.{◌≡◌, refl, sym, ap, ◌∙◌}
use mathlib.Core.Logic.{◌≢◌}
use mathlib.Core.Bool.{Bool, true, cond, or-true}
use mathlib.Core.List.{List, [], ◌∷◌, ◌++◌, map}
use native.Mathlib.Omega.{arith}
use lib.ListN.{length, drop}
use lib.Dec.{leb, ltb}
use borrow.Author.Tests.{ltb-true, ltb-false, lt-ltb, eq-eqb}
use Rattle.ascii.proofs.Cases.{by_test}
use Rattle.layout.specs.declared.BinTable.{BinTable}
use Rattle.cell.specs.declared.Cell.{Cell}
use Rattle.walk.specs.declared.Entry.{Entry}
use Rattle.walk.specs.declared.Entry.TheVariants as E
use Rattle.walk.specs.declared.How.{How}
use Rattle.walk.specs.declared.Reading.{Reading}
use Rattle.walk.specs.Plain.{row_entries}
use Rattle.walk.specs.Scaled.{in_reading}
use Rattle.walk.specs.Walk.{Step, read_cell, read_row, seek, State, Outcome, Reply, got_cell, got_row, sought, at_end, refused, stop, start, placed, grown, Next, entry_at, no_entry, Gathered, all_cells, outside, next_entry, rest, cell_outcome, row_outcome, seek_outcome, walk_step, walk, place_ok, handed}
use Rattle.walk.specs.Step.{fits, choice_ok, belongs, cursor_at, with_cursor, cursor_step, run}
use Rattle.walk.specs.Agree.{Counted}
use Rattle.walk.proofs.Laws.{IsNext, is_next}
use Rattle.walk.proofs.Readings.{place_in}

-- the number of a refusal; 0 for any other answer
abbrev pub refusal_number : Reply → ℕ
refusal_number (got_cell c) = 0
refusal_number (got_row k) = 0
refusal_number sought = 0
refusal_number at_end = 0
refusal_number (refused n p) = n

module _ (rows : ℕ → List Entry) (n : ℕ) where
  -- ---- places that belong

  pub ok_start : (r : ℕ) → r ≤ n → place_ok rows n r 0 ≡ true
  unfolding place_ok
  ok_start r h =
      by_test (λ (t : Bool). t ≡ true) (ltb r n) (λ e. refl) (λ e. let q : r ≡ n = omega (arith, ltb-false r n e) in rw (eq-eqb r n q))

  pub ok_inside : (r p : ℕ) → r < n → p < length (rows r) → place_ok rows n r p ≡ true
  unfolding place_ok
  ok_inside r p hr hp = rw (lt-ltb r n hr, lt-ltb p (length (rows r)) hp, or-true)

  -- ---- what the walk keeps is ok, and what a step from s comes to: what is kept stays ok, the count grows by the cells handed out, and
  -- there is no 10

  pub record StateOk (s : State) : Type 0 where
    pub place : place_ok rows n s.row s.passed ≡ true
    pub low : s.count ≤ stop

  pub record StepOk (s : State) (x : Step) (o : Outcome) : Type 0 where
    pub kept_ok : StateOk o.state
    pub counts : o.state.count ≡ min stop (s.count + handed x o.reply)
    pub not_ten : refusal_number o.reply ≢ 10

  pub start_ok : StateOk start
  start_ok = record { place = ok_start 0 (omega arith); low = omega arith }

  module _ (s : State) (ok : StateOk s) (x : Step) where
    goes : (y : Reply) (list : List Cell) (t : State) → place_ok rows n t.row t.passed ≡ true
        → t.count ≡ min stop (s.count + handed x y) → refusal_number y ≢ 10 → StepOk s x (record { reply = y; list = list; state = t })
    goes y list t here c u = record { kept_ok = record { place = here; low = omega arith }; counts = c; not_ten = u }

    -- a step that hands out nothing and leaves all as it is
    stays : (y : Reply) (list : List Cell) → handed x y ≡ 0 → refusal_number y ≢ 10 → StepOk s x (record { reply = y; list = list; state = s })
    stays y list h u = goes y list s ok.place (omega (arith, ok.low)) u

  module _ (s : State) (ok : StateOk s) where
    cell_ok : (how : How) (y : Next) → IsNext rows n y → StepOk s (read_cell how) (cell_outcome rows n s how y)
    cell_ok how no_entry h = goes s ok (read_cell how) at_end [] (placed s n 0) (ok_start n (omega arith)) (omega (arith, ok.low)) (omega arith)
    cell_ok how (entry_at r p (E.OutsideHeap k)) h = stays s ok (read_cell how) (refused 13 k) [] refl (omega arith)
    cell_ok how (entry_at r p (E.Cell c)) h =
        by_test (λ (t : State). StepOk s (read_cell how) (record { reply = got_cell c; list = []; state = t })) (ltb (suc p) (length (rows r)))
        (λ e. goes s ok (read_cell how) (got_cell c) [] (placed (grown s (read_cell how) 1) r (suc p)) (ok_inside r (suc p) h.1.1 (ltb-true _ _ e)) refl (omega arith))
        (λ e. goes s ok (read_cell how) (got_cell c) [] (placed (grown s (read_cell how) 1) (suc r) 0) (ok_start (suc r) h.1.1) refl (omega arith))

    row_ok : (how : How) (list : List Cell) (g : Gathered) → s.row < n → StepOk s (read_row how list) (row_outcome rows n s how list g)
    row_ok how list (outside k) h = stays s ok (read_row how list) (refused 13 k) list refl (omega arith)
    row_ok how list (all_cells cs) h =
        by_test (StepOk s (read_row how list)) (leb (length cs) (length list))
        (λ e.
        goes s ok (read_row how list) (got_row (length cs)) (cs ++ drop (length cs) list)
        (placed (grown s (read_row how list) (length cs)) (suc s.row) 0) (ok_start (suc s.row) h) refl (omega arith))
        (λ e. stays s ok (read_row how list) (refused 14 (length cs)) list refl (omega arith))

    -- a read of the next entry, and of what is left of the row
    reads_cell : (how : How) → StepOk s (read_cell how) (cell_outcome rows n s how (next_entry rows n s))
    reads_cell how = cell_ok how (next_entry rows n s) (is_next rows n s.row s.passed)

    reads_row : (how : How) (list : List Cell)
        → StepOk s (read_row how list) (cond (ltb s.row n) (row_outcome rows n s how list (rest rows n s)) (record { reply = at_end; list = list; state = s }))
    reads_row how list =
        by_test (StepOk s (read_row how list)) (ltb s.row n) (λ e. row_ok how list (rest rows n s) (ltb-true _ _ e))
        (λ e. stays s ok (read_row how list) at_end list refl (omega arith))

    seeks : (r : ℕ) → StepOk s (seek r) (seek_outcome n s r)
    seeks r =
        by_test (StepOk s (seek r)) (ltb r n)
        (λ e. goes s ok (seek r) sought [] (placed s r 0) (ok_start r (omega (arith, ltb-true r n e))) (omega (arith, ok.low)) (omega arith))
        (λ e. stays s ok (seek r) (refused 12 r) [] refl (omega arith))

module _ (l : BinTable) (rows : ℕ → List Entry) (n : ℕ) where
  -- a place is one of the plain list just where it is one of the list in the reading
  kept_in : (m : Reading) (s : State) → StateOk rows n s → StateOk (in_reading l m rows) n s
  kept_in m s ok = record { place = place_in l m rows n s.row s.passed ∙ ok.place; low = ok.low }

  kept_back : (m : Reading) (s : State) (x : Step) (o : Outcome) → StepOk (in_reading l m rows) n s x o → StepOk rows n s x o
  kept_back m s x o g =
      record {
        kept_ok = record { place = sym (place_in l m rows n o.state.row o.state.passed) ∙ g.kept_ok.place; low = g.kept_ok.low };
        counts = g.counts;
        not_ten = g.not_ten;
      }

  pub step_ok : (s : State) → StateOk rows n s → (x : Step) → StepOk rows n s x (walk_step l rows n s x)
  unfolding walk_step
  step_ok s ok (read_cell how) =
      let seen = in_reading l how.reading rows in
      kept_back how.reading s (read_cell how) _ (reads_cell seen n s (kept_in how.reading s ok) how)
  step_ok s ok (read_row how list) =
      let seen = in_reading l how.reading rows in
      kept_back how.reading s (read_row how list) _ (reads_row seen n s (kept_in how.reading s ok) how list)
  step_ok s ok (seek r) = seeks rows n s ok r

  -- ---- the counts of a whole list of steps

  pub walk_counts : (choice : ℕ) (heap : Bool) (k : ℕ) (s : State) (xs : List Step) → StateOk rows n s → s.count ≡ min stop k
      → Counted k xs (map (with_cursor choice heap) (walk l rows n s xs))
  unfolding walk
  walk_counts choice heap k s [] ok e = tt
  walk_counts choice heap k s (x ∷ xs) ok e =
      let o : Outcome = walk_step l rows n s x in
      let g : StepOk rows n s x o = step_ok s ok x in
      let q : o.state.count ≡ min stop (k + handed x o.reply) = g.counts ∙ omega (arith, e) in
      (q, walk_counts choice heap (k + handed x o.reply) o.state xs g.kept_ok q)

  -- ---- no step of the walk answers 10

  abbrev pub NoTen : List Outcome → Type 0
  NoTen [] = Unit {0}
  NoTen (o ∷ os) = (refusal_number o.reply ≢ 10) × NoTen os

  pub walk_no_ten : (s : State) (xs : List Step) → StateOk rows n s → NoTen (walk l rows n s xs)
  unfolding walk
  walk_no_ten s [] ok = tt
  walk_no_ten s (x ∷ xs) ok =
      let g : StepOk rows n s x (walk_step l rows n s x) = step_ok s ok x in
      (g.not_ten, walk_no_ten (walk_step l rows n s x).state xs g.kept_ok)

-- ---- the cursor does what the walk does

module _ (l : BinTable) (a : List ℕ) (choice : ℕ) (heap : Bool) (ha : fits l a ≡ true) (hc : choice_ok l choice ≡ true) where
  pub follows : (s : State) (xs : List Step) → StateOk (row_entries l a choice heap) l.naxis2 s
      → run l a (cursor_at choice heap s) xs ≡ map (with_cursor choice heap) (walk l (row_entries l a choice heap) l.naxis2 s xs)
  unfolding run walk cursor_step belongs
  follows s [] ok = refl
  follows s (x ∷ xs) ok =
      let o : Outcome = walk_step l (row_entries l a choice heap) l.naxis2 s x in
      rw (ha, hc, ok.place)
      (ap (λ rest. with_cursor choice heap o ∷ rest) (follows o.state xs (step_ok l (row_entries l a choice heap) l.naxis2 s ok x).kept_ok))
