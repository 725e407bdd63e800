-- Isolation about the code's runs: whatever the calls returned and left, by their contracts alone, is what `run` gives, so the claim over the
-- definitions holds for it; and every list of steps has such a run.
-- Assumes nothing.
use Rattle.std.specs.Prelude.{Option, Some, Result, Ok, Err}
use Prim.Native.Nat.{ℕ}
use mathlib.Core.Path.{◌≡◌, refl, sym, ap, ap₂, subst, ◌∙◌}
use mathlib.Core.Bool.{Bool, true, cond}
use mathlib.Core.List.{List, [], ◌∷◌, map}
use lib.IntN.{pos}
use Rattle.std.specs.Float.{binary64}
use Rattle.std.specs.Float.Ieee.{of_bits}
use Rattle.layout.specs.declared.BinTable.{BinTable}
use Rattle.refusal.specs.declared.Refusal.{Refusal}
use Rattle.refusal.specs.declared.Refusal.TheVariants as R
use Rattle.header.specs.Unused.{header_may_become}
use Rattle.bintable.specs.Entry.{accepted, entry}
use Rattle.bintable.proofs.Kept.{parsed_entry}
use Rattle.bintable.proofs.Unused.{entry_same}
use Rattle.cell.specs.declared.DataValue.TheVariants as D
use Rattle.cell.specs.declared.Cell.{Cell}
use Rattle.walk.specs.declared.TableData.{TableData}
use Rattle.walk.specs.declared.Stepped.{Stepped}
use Rattle.walk.specs.declared.How.{How}
use Rattle.walk.specs.Plain.{cell_of}
use Rattle.walk.specs.Scaled.{plain, scaled}
use Rattle.walk.specs.Readings.{plainly, in_results}
use Rattle.walk.specs.Walk.{Step, read_cell, read_row, seek, Reply, got_cell, got_row, sought, refused, gather, place_ok, walk_step}
use Rattle.walk.specs.Walk as W
use Rattle.walk.specs.Step.{fits, choice_ok, cursor_at, Selection, choice_of, opened, not_opened, open_with, opening_of, StepResult, with_cursor, cursor_step, run, plain_walk, cell_result, row_result, seek_result}
use Rattle.walk.proofs.Computed.{computed_run}
use Rattle.walk.specs.Agree.{Agree, Counted, SameSteps}
use Rattle.walk.proofs.Answers.{cell_answer, row_answer, seek_answer, answer_stands, opening_decides}
use Rattle.walk.proofs.Isolation.{isolation}
use Rattle.walk.proofs.Same.{agree_self}
use Rattle.walk.proofs.Readings.{run_in}
use Rattle.walk.proofs.Examples.{area}
use Rattle.walk.proofs.Together.{table, cursor}
use Rattle.row.specs.Ran.{Ran, no_steps, next, read_row_by_value, seek_to_row, lent_next, lent_next_row, lent_seek_to_row, SameRuns, Isolated, EntryEnsures, OpenEnsures}

-- ---- the code's runs and `run`

module _ (l : BinTable) (a : List ℕ) where
  ends : (c : TableData) → [] ≡ run l a c []
  unfolding run
  ends c = refl

  -- a step, and the steps after it
  then : (c : TableData) (x : Step) (xs : List Step) (o : StepResult) (os : List StepResult) → o ≡ cursor_step l a c x → os ≡ run l a o.cursor xs
      → o ∷ os ≡ run l a c (x ∷ xs)
  unfolding run
  then c x xs o os e r = ap (λ (rest : List StepResult). o ∷ rest) r ∙ ap (λ (q : StepResult). q ∷ run l a q.cursor xs) e

  -- whatever the calls returned and left is what `run` gives
  pub ran_run : {c : TableData} {xs : List Step} {os : List StepResult} → Ran l a c xs os → os ≡ run l a c xs
  ran_run no_steps = ends _
  ran_run (next how r e rest) = then _ _ _ _ _ e (ran_run rest)
  ran_run (read_row_by_value how list after r e rest) = then _ _ _ _ _ e (ran_run rest)
  ran_run (seek_to_row row r e rest) = then _ _ _ _ _ e (ran_run rest)
  ran_run (lent_next moved how r e rest) = then _ _ _ _ _ e (ran_run rest)
  ran_run (lent_next_row moved how list after r e rest) = then _ _ _ _ _ e (ran_run rest)
  ran_run (lent_seek_to_row moved row r e rest) = then _ _ _ _ _ e (ran_run rest)

  -- and every list of steps has such a run: for each result there is an answer that a call may return
  cell_call : TableData → How → Stepped (Option Cell)
  cell_call c how = let o = cursor_step l a c (read_cell how) in record { cursor = o.cursor; answer = cell_answer o.reply }

  cell_called : (c : TableData) (how : How) → cell_result (cell_call c how).cursor (cell_call c how).answer ≡ cursor_step l a c (read_cell how)
  unfolding cell_call
  cell_called c how =
      let w = answer_stands l a c (read_cell how) in
      ap₂ (λ (y : Reply) (list : List Cell). record { reply = y; cursor = (cursor_step l a c (read_cell how)).cursor; list = list }) w.0 w.1

  row_call : TableData → How → List Cell → Stepped (Option ℕ)
  row_call c how list = let o = cursor_step l a c (read_row how list) in record { cursor = o.cursor; answer = row_answer o.reply }

  row_called : (c : TableData) (how : How) (list : List Cell)
      → row_result (row_call c how list).cursor (row_call c how list).answer (cursor_step l a c (read_row how list)).list
      ≡ cursor_step l a c (read_row how list)
  unfolding row_call
  row_called c how list =
      let o = cursor_step l a c (read_row how list) in
      ap {B = StepResult} (λ (y : Reply). record { reply = y; cursor = o.cursor; list = o.list }) (answer_stands l a c (read_row how list)).0

  seek_call : TableData → ℕ → Stepped Unit
  seek_call c r = let o = cursor_step l a c (seek r) in record { cursor = o.cursor; answer = seek_answer o.reply }

  seek_called : (c : TableData) (r : ℕ) → seek_result (seek_call c r).cursor (seek_call c r).answer ≡ cursor_step l a c (seek r)
  unfolding seek_call
  seek_called c r =
      let w = answer_stands l a c (seek r) in
      ap₂ (λ (y : Reply) (list : List Cell). record { reply = y; cursor = (cursor_step l a c (seek r)).cursor; list = list }) w.0 w.1

  one_more : (c : TableData) (x : Step) (xs : List Step) (o : StepResult) → o ≡ cursor_step l a c x → Ran l a c (x ∷ xs) (o ∷ run l a (cursor_step l a c x).cursor xs)
      → Ran l a c (x ∷ xs) (run l a c (x ∷ xs))
  unfolding run
  one_more c x xs o e ran = subst (λ (q : StepResult). Ran l a c (x ∷ xs) (q ∷ run l a (cursor_step l a c x).cursor xs)) e ran

  none_more : (c : TableData) → Ran l a c [] (run l a c [])
  unfolding run
  none_more c = no_steps

  pub ran_all : (c : TableData) (xs : List Step) → Ran l a c xs (run l a c xs)
  unfolding cell_call row_call seek_call
  ran_all c [] = none_more c
  ran_all c (read_cell how ∷ xs) =
      let o = cursor_step l a c (read_cell how) in
      one_more c (read_cell how) xs _ (cell_called c how) (next how (cell_call c how) (cell_called c how) (ran_all o.cursor xs))
  ran_all c (read_row how list ∷ xs) =
      let o = cursor_step l a c (read_row how list) in
      one_more c (read_row how list) xs _ (row_called c how list)
      (read_row_by_value how list o.list (row_call c how list) (row_called c how list) (ran_all o.cursor xs))
  ran_all c (seek r ∷ xs) =
      one_more c (seek r) xs _ (seek_called c r) (seek_to_row r (seek_call c r) (seek_called c r) (ran_all (cursor_step l a c (seek r)).cursor xs))

-- ---- isolation

-- the claim over the definitions, about the code's runs
same_runs : (la lb : BinTable) (a b : List ℕ) (sel : Selection) (heap : Bool) (ca cb : TableData) (xs : List Step) (os os' : List StepResult)
    → la ≡ lb → ca ≡ cb → SameSteps la a b sel heap ca xs → SameSteps la a b sel heap ca (map plainly xs)
    → Ran la a ca xs os → Ran lb b cb xs os' → SameRuns la lb a b sel heap xs os os'
same_runs la lb a b sel heap ca cb xs os os' layouts cursors d p ra rb =
    let sa : os ≡ run la a ca xs = ran_run la a ra in
    let sb : os' ≡ run la b ca xs =
    ran_run lb b rb ∙ ap (λ (l : BinTable). run l b cb xs) (sym layouts) ∙ ap (λ (c : TableData). run la b c xs) (sym cursors) in
    record {
      same = sa ∙ d.same ∙ sym sb;
      walked_a = sa ∙ d.walked_a;
      walked_b = sb ∙ d.walked_b
          ∙ ap (λ (l : BinTable). map (with_cursor (choice_of l sel) heap) (plain_walk l b (choice_of l sel) heap xs)) layouts;
      read_a = sa ∙ run_in la a ca xs ∙ ap (in_results la xs) p.walked_a;
      read_b = sb ∙ run_in la b ca xs ∙ ap (in_results la xs) p.walked_b
          ∙ ap (λ (l : BinTable). in_results l xs (map (with_cursor (choice_of l sel) heap) (plain_walk l b (choice_of l sel) heap (map plainly xs)))) layouts;
      counted_a = subst (Counted 0 xs) (sym sa) d.counted_a;
      counted_b = subst (Counted 0 xs) (sym sb) d.counted_b;
    }

-- the layouts that `bintable::parse` returned for one header with a and with b; what `table::open` or `table::select_fields` returned on each; and
-- areas that agree
pub runs_isolated : (h a b : List ℕ) (sel : Selection) (heap : Bool) (la lb : BinTable) (oa ob : Result TableData Refusal)
    → EntryEnsures h a (Ok la) → EntryEnsures h b (Ok lb)
    → OpenEnsures la a sel heap oa → OpenEnsures lb b sel heap ob
    → Agree la a b (choice_of la sel) heap
    → Isolated la lb a b sel heap oa ob
runs_isolated h a b sel heap la lb oa ob entry_a entry_b opened_a opened_b agree =
    let ea : entry h a ≡ accepted la = parsed_entry h a la entry_a in
    let eb : entry h b ≡ accepted lb = parsed_entry h b lb entry_b in
    let layouts : la ≡ lb = (isolation h a b sel heap [] la lb ea eb agree).0 in
    let openings : opening_of oa ≡ opening_of ob = opened_a ∙ (isolation h a b sel heap [] la lb ea eb agree).1.0 ∙ sym opened_b in
    record {
      layouts = layouts;
      openings = openings;
      both_opened = λ cursor o. sym (opening_decides oa ob openings) ∙ o;
      runs = λ cursor o xs os os'.
          same_runs la lb a b sel heap cursor cursor xs os os' layouts refl
          ((isolation h a b sel heap xs la lb ea eb agree).1.1 cursor (sym opened_a ∙ ap opening_of o))
          ((isolation h a b sel heap (map plainly xs) la lb ea eb agree).1.1 cursor (sym opened_a ∙ ap opening_of o));
    }

-- opening looks at a selection through its choice alone, so two selections of the same columns may be taken: all columns and a list of all, for one
choice_opens : (l : BinTable) (a : List ℕ) (sel sel' : Selection) (heap : Bool) → choice_of l sel' ≡ choice_of l sel → open_with l a sel' heap ≡ open_with l a sel heap
unfolding open_with
choice_opens l a sel sel' heap e =
    ap (λ (k : ℕ). cond (fits l a) (cond (choice_ok l k) (opened (cursor_at k heap W.start)) (not_opened 11)) (not_opened 10)) e

pub choices_isolated : (h a b : List ℕ) (sel sel' : Selection) (heap : Bool) (la lb : BinTable) (oa ob : Result TableData Refusal)
    → EntryEnsures h a (Ok la) → EntryEnsures h b (Ok lb)
    → OpenEnsures la a sel heap oa → OpenEnsures lb b sel' heap ob → choice_of lb sel' ≡ choice_of lb sel
    → Agree la a b (choice_of la sel) heap
    → Isolated la lb a b sel heap oa ob
choices_isolated h a b sel sel' heap la lb oa ob entry_a entry_b opened_a opened_b e agree =
    runs_isolated h a b sel heap la lb oa ob entry_a entry_b opened_a (opened_b ∙ choice_opens lb b sel sel' heap e) agree

-- the two areas may also have two headers, of which one may become the other
pub headers_isolated : (h g a b : List ℕ) (sel : Selection) (heap : Bool) (la lb : BinTable) (oa ob : Result TableData Refusal)
    → header_may_become h g ≡ true
    → EntryEnsures h a (Ok la) → EntryEnsures g b (Ok lb)
    → OpenEnsures la a sel heap oa → OpenEnsures lb b sel heap ob
    → Agree la a b (choice_of la sel) heap
    → Isolated la lb a b sel heap oa ob
headers_isolated h g a b sel heap la lb oa ob m entry_a entry_b opened_a opened_b agree =
    runs_isolated h a b sel heap la lb oa ob entry_a (entry_b ∙ sym (entry_same h g m b)) opened_a opened_b agree

-- so with one area too: every run on the two headers is the same
pub headers_one_area : (h g a : List ℕ) (sel : Selection) (heap : Bool) (la lb : BinTable) (oa ob : Result TableData Refusal)
    → header_may_become h g ≡ true
    → EntryEnsures h a (Ok la) → EntryEnsures g a (Ok lb)
    → OpenEnsures la a sel heap oa → OpenEnsures lb a sel heap ob
    → Isolated la lb a a sel heap oa ob
headers_one_area h g a sel heap la lb oa ob m entry_h entry_g opened_h opened_g =
    headers_isolated h g a a sel heap la lb oa ob m entry_h entry_g opened_h opened_g
    (agree_self la a (choice_of la sel) heap)

-- ---- a run of all six calls, on the request's example: a cell, the rest of its row scaled, a row that the table lacks, a seek back, a list that is too
-- short, and the first cell again, scaled

abbrev place : ℕ → ℕ → ℕ → TableData
place row passed count = cursor_at 3 true (record { row = row; passed = passed; count = count })

abbrev cell_0 : Cell
cell_0 = cell_of 0 0 0 (D.Short (pos 1))

-- the two, scaled by the factor 1 and the zero 0
abbrev scaled_0 : Cell
scaled_0 = cell_of 0 0 0 (D.Double (of_bits binary64 0x3ff0000000000000) 0x3ff0000000000000)

abbrev scaled_1 : Cell
scaled_1 = cell_of 0 1 0 (D.Double (of_bits binary64 0x40bf400000000000) 0x40bf400000000000)

abbrev filler : Cell
filler = cell_of 7 7 7 (D.Bit 7)

abbrev result : Reply → TableData → List Cell → StepResult
result r c list = record { reply = r; cursor = c; list = list }

pub some_calls : Ran table area cursor
    (read_cell plain ∷ read_row scaled (filler ∷ filler ∷ []) ∷ seek 2 ∷ seek 0 ∷ read_row scaled (filler ∷ []) ∷ read_cell scaled ∷ []) (
    result (got_cell cell_0) (place 0 1 1) []
    ∷ result (got_row 1) (place 1 0 2) (scaled_1 ∷ filler ∷ [])
    ∷ result (refused 12 2) (place 1 0 2) []
    ∷ result sought (place 0 0 2) []
    ∷ result (refused 14 2) (place 0 0 2) (filler ∷ [])
    ∷ result (got_cell scaled_0) (place 0 1 3) []
    ∷ [])
unfolding computed_run table
some_calls =
    next plain (record { cursor = place 0 1 1; answer = Ok (Some cell_0) }) refl
    (lent_next_row (place 1 0 2) scaled (filler ∷ filler ∷ []) (scaled_1 ∷ filler ∷ []) (Ok (Some 1)) refl
    (lent_seek_to_row (place 1 0 2) 2 (Err (R.NoSuchRow 2)) refl
    (seek_to_row 0 (record { cursor = place 0 0 2; answer = Ok tt }) refl
    (read_row_by_value scaled (filler ∷ []) (filler ∷ []) (record { cursor = place 0 0 2; answer = Err (R.ShortList 2) }) refl
    (lent_next (place 0 1 3) scaled (Ok (Some scaled_0)) refl no_steps)))))
