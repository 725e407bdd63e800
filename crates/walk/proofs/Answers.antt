-- What each answer of a step says on any layout, data area and cursor: a refusal moves nothing and writes nothing, each step has its own refusals, and
-- a list lent keeps its length and what lies behind the cells of a row.
-- Assumes nothing.
use Rattle.std.specs.Prelude.{Result, Err, Ok, Option, Some, None}
use Prim.Native.Nat.{ℕ, suc, ◌≤◌}
use mathlib.Core.Path.{◌≡◌, refl, sym, ap, subst, ◌∙◌}
use mathlib.Core.Bool.{true, false, and-false}
use mathlib.Core.List.{List, [], ◌∷◌}
use native.Mathlib.Omega.{arith}
use lib.Dec.{leb, ltb}
use lib.ListN.{length, drop, length-append, length-drop}
use lib.Seq.{drop-append_seam}
use borrow.Author.Tests.{leb-true}
use Rattle.ascii.proofs.Cases.{by_test}
use Rattle.refusal.specs.declared.Refusal.{Refusal}
use Rattle.refusal.specs.Refusal as H
use Rattle.tform.specs.Width.{among}
use Rattle.layout.specs.declared.BinTable.{BinTable}
use Rattle.refusal.proofs.Decided.{check_of, check_back}
use Rattle.cell.specs.declared.Cell.{Cell}
use Rattle.walk.specs.declared.TableData.{TableData}
use Rattle.walk.specs.declared.Entry.{Entry}
use Rattle.walk.specs.declared.Entry.TheVariants as E
use Rattle.walk.specs.declared.How.{How}
use Rattle.walk.specs.Plain.{row_entries}
use Rattle.walk.specs.Scaled.{in_reading}
use Rattle.walk.specs.Readings.{stored_by}
use Rattle.walk.specs.Walk.{Step, read_cell, read_row, seek, lent, Outcome, Reply, got_cell, got_row, sought, at_end, refused, Next, entry_at, no_entry, Gathered, all_cells, outside, next_entry, rest, cell_outcome, row_outcome, walk_step}
use Rattle.walk.specs.Step.{fits, choice_ok, belongs, with_cursor, state_of, no_cursor, Opening, opening_of, cell_reply, row_reply, seek_reply, StepResult, cursor_step, run}

-- the refusals of a step
abbrev pub refusals_of : Step → List ℕ
refusals_of (read_cell how) = 10 ∷ 13 ∷ []
refusals_of (read_row how list) = 10 ∷ 13 ∷ 14 ∷ []
refusals_of (seek r) = 10 ∷ 12 ∷ []

-- what an answer of the step x of cursor c says of the cursor afterwards and of what the list lent holds then
abbrev pub Says : Step → TableData → Reply → TableData → List Cell → Type 0
Says x c (got_cell k) d list = list ≡ lent x
Says x c (got_row k) d list = (k ≤ length (lent x)) × ((length list ≡ length (lent x)) × (drop k list ≡ drop k (lent x)))
Says x c sought d list = list ≡ lent x
Says x c at_end d list = list ≡ lent x
Says x c (refused n p) d list = (among n (refusals_of x) ≡ true) × ((d ≡ c) × (list ≡ lent x))

module _ (rows : ℕ → List Entry) (n : ℕ) (c : TableData) where
  abbrev SaysOf : Step → Outcome → Type 0
  SaysOf x o = let r = with_cursor c.choice c.heap o in Says x c r.reply r.cursor r.list

  cell_says : (how : How) (x : Next) → SaysOf (read_cell how) (cell_outcome rows n (state_of c) how x)
  unfolding among
  cell_says how no_entry = refl
  cell_says how (entry_at r p (E.Cell k)) = refl
  cell_says how (entry_at r p (E.OutsideHeap k)) = (refl, (refl, refl))

  row_says : (how : How) (list : List Cell) (g : Gathered) → SaysOf (read_row how list) (row_outcome rows n (state_of c) how list g)
  unfolding among
  row_says how list (outside k) = (refl, (refl, refl))
  row_says how list (all_cells cs) =
      by_test (SaysOf (read_row how list)) (leb (length cs) (length list))
      (λ t.
      let h : length cs ≤ length list = leb-true _ _ t in (
        h,
        (rw (length-append, length-drop) (omega (arith, h)), drop-append_seam cs (drop (length cs) list)),
      ))
      (λ t. (refl, (refl, refl)))

module _ (l : BinTable) (rows : ℕ → List Entry) (n : ℕ) (c : TableData) where
  step_says : (x : Step) → SaysOf rows n c x (walk_step l rows n (state_of c) x)
  unfolding walk_step among
  step_says (read_cell how) =
      let seen = in_reading l how.reading rows in
      cell_says seen n c how (next_entry seen n (state_of c))
  step_says (read_row how list) =
      let seen = in_reading l how.reading rows in
      by_test (SaysOf seen n c (read_row how list)) (ltb c.row n) (λ t. row_says seen n c how list (rest seen n (state_of c))) (λ t. refl)
  step_says (seek r) = by_test (SaysOf rows n c (seek r)) (ltb r n) (λ t. refl) (λ t. (refl, (refl, refl)))

-- of every step
pub answers : (l : BinTable) (a : List ℕ) (c : TableData) (x : Step)
    → Says x c (cursor_step l a c x).reply (cursor_step l a c x).cursor (cursor_step l a c x).list
unfolding cursor_step among
answers l a c x =
    by_test (λ (o : StepResult). Says x c o.reply o.cursor o.list) (belongs l a c)
    (λ t. step_says l (row_entries l a c.choice c.heap) l.naxis2 c x) (λ t. (ten x, (refl, refl)))
  where
    ten : (x : Step) → among 10 (refusals_of x) ≡ true
    ten (read_cell how) = refl
    ten (read_row how list) = refl
    ten (seek r) = refl

-- a refusal moves no cursor and writes no list
pub refused_stays : (l : BinTable) (a : List ℕ) (c : TableData) (x : Step) (n p : ℕ) → (cursor_step l a c x).reply ≡ refused n p
    → ((cursor_step l a c x).cursor ≡ c) × ((cursor_step l a c x).list ≡ lent x)
refused_stays l a c x n p e =
    (subst (λ (y : Reply). Says x c y (cursor_step l a c x).cursor (cursor_step l a c x).list) e (answers l a c x)).1

-- the cells that a step stored lie in its list
inside_by : (x : Step) (c d : TableData) (y : Reply) (list : List Cell) → Says x c y d list → stored_by y ≤ length list
inside_by x c d (got_cell k) list h = omega arith
inside_by x c d (got_row k) list h = omega (arith, h.0, h.1.0)
inside_by x c d sought list h = omega arith
inside_by x c d at_end list h = omega arith
inside_by x c d (refused n p) list h = omega arith

pub stored_inside : (l : BinTable) (a : List ℕ) (c : TableData) (x : Step) → stored_by (cursor_step l a c x).reply ≤ length (cursor_step l a c x).list
stored_inside l a c x = inside_by x c (cursor_step l a c x).cursor (cursor_step l a c x).reply (cursor_step l a c x).list (answers l a c x)

-- every step has a result
pub run_length : (l : BinTable) (a : List ℕ) (c : TableData) (xs : List Step) → length (run l a c xs) ≡ length xs
unfolding run
run_length l a c [] = refl
run_length l a c (x ∷ xs) = ap suc (run_length l a (cursor_step l a c x).cursor xs)

-- ---- the definitions' answers decide the code's

-- where no list is lent none is left
abbrev pub NoList : Step → List Cell → Type 0
NoList (read_cell how) list = [] ≡ list
NoList (read_row how lent) list = Unit {0}
NoList (seek r) list = [] ≡ list

-- a refusal by its number and place; `x` where there is none
abbrev refused_or : {A : Type 0} → A → Result Unit Refusal → Result A Refusal
refused_or x (Ok y) = Ok x
refused_or x (Err r) = Err r

-- the answers of a cell read, a row read and a seek that stand for a reply
abbrev pub cell_answer : Reply → Result (Option Cell) Refusal
cell_answer (got_cell c) = Ok (Some c)
cell_answer (got_row k) = Ok None
cell_answer sought = Ok None
cell_answer at_end = Ok None
cell_answer (refused n p) = refused_or None (check_of (H.refused n p))

abbrev pub row_answer : Reply → Result (Option ℕ) Refusal
row_answer (got_cell c) = Ok None
row_answer (got_row k) = Ok (Some k)
row_answer sought = Ok None
row_answer at_end = Ok None
row_answer (refused n p) = refused_or None (check_of (H.refused n p))

abbrev pub seek_answer : Reply → Result Unit Refusal
seek_answer (got_cell c) = Ok tt
seek_answer (got_row k) = Ok tt
seek_answer sought = Ok tt
seek_answer at_end = Ok tt
seek_answer (refused n p) = refused_or tt (check_of (H.refused n p))

cell_back : (x : Result (Option Cell) Refusal) → cell_answer (cell_reply x) ≡ x
cell_back (Ok (Some c)) = refl
cell_back (Ok None) = refl
cell_back (Err r) = ap (refused_or None) (check_back (Err r))

row_back : (x : Result (Option ℕ) Refusal) → row_answer (row_reply x) ≡ x
row_back (Ok (Some n)) = refl
row_back (Ok None) = refl
row_back (Err r) = ap (refused_or None) (check_back (Err r))

seek_back : (x : Result Unit Refusal) → seek_answer (seek_reply x) ≡ x
seek_back (Ok tt) = refl
seek_back (Err r) = ap (refused_or tt) (check_back (Err r))

pub cell_reply_decides : (x y : Result (Option Cell) Refusal) → cell_reply x ≡ cell_reply y → x ≡ y
cell_reply_decides x y e = sym (cell_back x) ∙ ap cell_answer e ∙ cell_back y

pub row_reply_decides : (x y : Result (Option ℕ) Refusal) → row_reply x ≡ row_reply y → x ≡ y
row_reply_decides x y e = sym (row_back x) ∙ ap row_answer e ∙ row_back y

pub seek_reply_decides : (x y : Result Unit Refusal) → seek_reply x ≡ seek_reply y → x ≡ y
seek_reply_decides x y e = sym (seek_back x) ∙ ap seek_answer e ∙ seek_back y

-- the answer of a call stands for the reply of its step
abbrev pub Answered : Step → Reply → Type 0
Answered (read_cell how) r = cell_reply (cell_answer r) ≡ r
Answered (read_row how list) r = row_reply (row_answer r) ≡ r
Answered (seek k) r = seek_reply (seek_answer r) ≡ r

-- and the other way round: an answer of the code's stands for each answer of a step, with nothing where no list is lent
module _ (rows : ℕ → List Entry) (n : ℕ) (c : TableData) where
  abbrev Stands : Step → Outcome → Type 0
  Stands x o = let r = with_cursor c.choice c.heap o in Answered x r.reply × NoList x r.list

  cell_stands : (how : How) (x : Next) → Stands (read_cell how) (cell_outcome rows n (state_of c) how x)
  cell_stands how no_entry = (refl, refl)
  cell_stands how (entry_at r p (E.Cell k)) = (refl, refl)
  cell_stands how (entry_at r p (E.OutsideHeap k)) = (refl, refl)

  row_stands : (how : How) (list : List Cell) (g : Gathered) → Stands (read_row how list) (row_outcome rows n (state_of c) how list g)
  row_stands how list (outside k) = (refl, tt)
  row_stands how list (all_cells cs) = by_test (Stands (read_row how list)) (leb (length cs) (length list)) (λ t. (refl, tt)) (λ t. (refl, tt))

module _ (l : BinTable) (rows : ℕ → List Entry) (n : ℕ) (c : TableData) where
  step_stands : (x : Step) → Stands rows n c x (walk_step l rows n (state_of c) x)
  unfolding walk_step
  step_stands (read_cell how) =
      let seen = in_reading l how.reading rows in
      cell_stands seen n c how (next_entry seen n (state_of c))
  step_stands (read_row how list) =
      let seen = in_reading l how.reading rows in
      by_test (Stands seen n c (read_row how list)) (ltb c.row n) (λ t. row_stands seen n c how list (rest seen n (state_of c))) (λ t. (refl, tt))
  step_stands (seek r) = by_test (Stands rows n c (seek r)) (ltb r n) (λ t. (refl, refl)) (λ t. (refl, refl))

pub answer_stands : (l : BinTable) (a : List ℕ) (c : TableData) (x : Step)
    → Answered x (cursor_step l a c x).reply × NoList x (cursor_step l a c x).list
unfolding cursor_step
answer_stands l a c x =
    by_test (λ (o : StepResult). Answered x o.reply × NoList x o.list) (belongs l a c)
    (λ t. step_stands l (row_entries l a c.choice c.heap) l.naxis2 c x) (λ t. (ten x, none x))
  where
    ten : (x : Step) → Answered x (refused 10 0)
    ten (read_cell how) = refl
    ten (read_row how list) = refl
    ten (seek r) = refl

    none : (x : Step) → NoList x (lent x)
    none (read_cell how) = refl
    none (read_row how list) = tt
    none (seek r) = refl

-- the cursor beside a refusal of opening belongs to no layout and area
pub no_cursor_lem : (l : BinTable) (a : List ℕ) → belongs l a no_cursor ≡ false
unfolding belongs choice_ok
no_cursor_lem l a = and-false (fits l a)

-- what the code's opening returned, by what it comes to
abbrev opened_by : Result Unit Refusal → TableData → Result TableData Refusal
opened_by (Ok x) c = Ok c
opened_by (Err r) c = Err r

abbrev opening_in : Opening → Result TableData Refusal
opening_in o = opened_by (check_of o.outcome) o.cursor

opening_back : (x : Result TableData Refusal) → opening_in (opening_of x) ≡ x
opening_back (Ok c) = refl
opening_back (Err r) = ap (λ (k : Result Unit Refusal). opened_by k no_cursor) (check_back (Err r))

pub opening_decides : (x y : Result TableData Refusal) → opening_of x ≡ opening_of y → x ≡ y
opening_decides x y e = sym (opening_back x) ∙ ap opening_in e ∙ opening_back y
