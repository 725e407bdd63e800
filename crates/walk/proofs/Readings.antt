-- A step in either reading is the plain step with its cells' values in that reading: the same cursor, count, refusals and rest
-- of the list, on any layout, data area and cursor, and so for whole lists of steps that mix both.
-- Assumes nothing.
use Prim.Native.Nat.{ℕ, zero, suc, ◌-◌}
use mathlib.Core.Path.{◌≡◌, refl, sym, ap, ◌∙◌}
use mathlib.Core.Bool.{Bool}
use mathlib.Core.List.{List, [], ◌∷◌, ◌++◌, map}
use lib.Dec.{leb, ltb}
use lib.ListN.{length, take, drop, get_or-map}
use lib.Seq.{take-append_seam, drop-append_seam}
use Rattle.std.proofs.lemmas.List.{length-map, drop-map, map-append}
use Rattle.ascii.proofs.Cases.{by_both}
use Rattle.layout.specs.declared.BinTable.{BinTable}
use Rattle.cell.specs.declared.Cell.{Cell}
use Rattle.walk.specs.declared.TableData.{TableData}
use Rattle.walk.specs.declared.Entry.{Entry}
use Rattle.walk.specs.declared.Entry.TheVariants as E
use Rattle.walk.specs.declared.Reading.{Reading}
use Rattle.walk.specs.declared.Reading.TheVariants.{Plain, Scaled}
use Rattle.walk.specs.declared.How.{How}
use Rattle.cell.specs.declared.Field.{Field}
use Rattle.cell.specs.declared.Field.TheVariants as F
use Rattle.walk.specs.Plain.{column_of, entry_in, row_entries}
use Rattle.walk.specs.Scaled.{scaled_cell, scaled_entry, in_reading, plain}
use Rattle.walk.specs.Walk.{Step, read_cell, read_row, seek, lent, State, Outcome, at_end, refused, Next, entry_at, no_entry, Gathered, all_cells, outside, before, gather, next, next_entry, rest, cell_outcome, row_outcome, place_ok, walk_step}
use Rattle.walk.specs.Step.{belongs, state_of, with_cursor, StepResult, cursor_step, run}
use Rattle.walk.specs.Readings.{entry_by, entry_as, plainly, reading_of, scaled_reply, scaled_list, in_result, in_results}

-- ---- the rows in a reading are as long, so the same places belong

pub length_in : (l : BinTable) (m : Reading) (rows : ℕ → List Entry) (r : ℕ) → length (in_reading l m rows r) ≡ length (rows r)
length_in l Plain rows r = refl
length_in l Scaled rows r = length-map (rows r) (scaled_entry l)

pub place_in : (l : BinTable) (m : Reading) (rows : ℕ → List Entry) (n r p : ℕ) → place_ok (in_reading l m rows) n r p ≡ place_ok rows n r p
unfolding place_ok
place_in l m rows n r p = rw (length_in l m rows r)

-- ---- an entry of a column's field

pub entry_is : (l : BinTable) (m : Reading) (a : List ℕ) (r k : ℕ) (f : Field) (i : ℕ)
    → entry_by m (column_of l k).scaling (entry_in (column_of l k) a r k f i) ≡ entry_as l m (entry_in (column_of l k) a r k f i)
entry_is l Plain a r k (F.Items ty at n) i = refl
entry_is l Plain a r k (F.Descriptor v) i = refl
entry_is l Plain a r k F.OutsideHeap i = refl
entry_is l Scaled a r k (F.Items ty at n) i = refl
entry_is l Scaled a r k (F.Descriptor v) i = refl
entry_is l Scaled a r k F.OutsideHeap i = refl

-- ---- what is left of a row, in either reading

abbrev pub cells_as : BinTable → Reading → List Cell → List Cell
cells_as l Plain cs = cs
cells_as l Scaled cs = map (scaled_cell l) cs

pub length_as : (l : BinTable) (m : Reading) (cs : List Cell) → length (cells_as l m cs) ≡ length cs
length_as l Plain cs = refl
length_as l Scaled cs = length-map cs (scaled_cell l)

pub append_as : (l : BinTable) (m : Reading) (cs ds : List Cell) → cells_as l m cs ++ cells_as l m ds ≡ cells_as l m (cs ++ ds)
append_as l Plain cs ds = refl
append_as l Scaled cs ds = sym (map-append (scaled_cell l) cs ds)

abbrev pub gathered_as : BinTable → Reading → Gathered → Gathered
gathered_as l m (all_cells cs) = all_cells (cells_as l m cs)
gathered_as l m (outside k) = outside k

-- ---- the second reading

module _ (l : BinTable) (rows : ℕ → List Entry) (n : ℕ) where
  abbrev seen : ℕ → List Entry
  seen = in_reading l Scaled rows

  abbrev scaled_next : Next → Next
  scaled_next no_entry = no_entry
  scaled_next (entry_at r p e) = entry_at r p (scaled_entry l e)

  next_seen : (k r p : ℕ) → next seen n k r p ≡ scaled_next (next rows n k r p)
  unfolding next
  next_seen zero r p = refl
  next_seen (suc k) r p =
      rw (length-map (rows r) (scaled_entry l))
      (by_both (λ (x y : Next). x ≡ scaled_next y) (ltb p (length (rows r)))
      (λ _. ap (entry_at r p) (get_or-map (scaled_entry l) (rows r) p (E.OutsideHeap 0)))
      (λ _. next_seen k (suc r) 0))

  as_plain : (g : Gathered) → gathered_as l Plain g ≡ g
  as_plain (all_cells cs) = refl
  as_plain (outside k) = refl

  abbrev scaled_gathered : Gathered → Gathered
  scaled_gathered (all_cells cs) = all_cells (map (scaled_cell l) cs)
  scaled_gathered (outside k) = outside k

  as_scaled : (g : Gathered) → scaled_gathered g ≡ gathered_as l Scaled g
  as_scaled (all_cells cs) = refl
  as_scaled (outside k) = refl

  before_seen : (c : Cell) (g : Gathered) → before (scaled_cell l c) (scaled_gathered g) ≡ scaled_gathered (before c g)
  before_seen c (all_cells cs) = refl
  before_seen c (outside k) = refl

  gather_seen : (es : List Entry) → gather (map (scaled_entry l) es) ≡ scaled_gathered (gather es)
  unfolding gather
  gather_seen [] = refl
  gather_seen (E.Cell c ∷ es) = rw (gather_seen es) (before_seen c (gather es))
  gather_seen (E.OutsideHeap k ∷ es) = refl

  rest_seen : (s : State) → rest seen n s ≡ scaled_gathered (rest rows n s)
  rest_seen s = rw (drop-map (scaled_entry l) s.passed (rows s.row)) (gather_seen (drop s.passed (rows s.row)))

  abbrev scaled_outcome : Outcome → Outcome
  scaled_outcome o = record { reply = scaled_reply l o.reply; list = scaled_list l o.reply o.list; state = o.state }

  cell_seen : (s : State) (how : How) (x : Next) → cell_outcome seen n s how (scaled_next x) ≡ scaled_outcome (cell_outcome rows n s plain x)
  cell_seen s how no_entry = refl
  cell_seen s how (entry_at r p (E.Cell c)) = rw (length-map (rows r) (scaled_entry l))
  cell_seen s how (entry_at r p (E.OutsideHeap k)) = refl

  -- the front of the list that a row read leaves
  front_seen : (cs list : List Cell)
      → map (scaled_cell l) cs ++ drop (length cs) list
      ≡ map (scaled_cell l) (take (length cs) (cs ++ drop (length cs) list)) ++ drop (length cs) (cs ++ drop (length cs) list)
  front_seen cs list = rw (take-append_seam cs (drop (length cs) list), drop-append_seam cs (drop (length cs) list))

  row_seen : (s : State) (how : How) (list : List Cell) (g : Gathered)
      → row_outcome seen n s how list (scaled_gathered g) ≡ scaled_outcome (row_outcome rows n s plain list g)
  row_seen s how list (outside k) = refl
  row_seen s how list (all_cells cs) =
      rw (length-map cs (scaled_cell l))
      (by_both (λ (x y : Outcome). x ≡ scaled_outcome y) (leb (length cs) (length list))
      (λ _. rw (front_seen cs list)) (λ _. refl))

  -- ---- either reading

  abbrev in_outcome : Reading → Outcome → Outcome
  in_outcome Plain o = o
  in_outcome Scaled o = scaled_outcome o

  cell_in : (m : Reading) (s : State) (how : How)
      → cell_outcome (in_reading l m rows) n s how (next_entry (in_reading l m rows) n s)
      ≡ in_outcome m (cell_outcome rows n s plain (next_entry rows n s))
  cell_in Plain s how = same_cell (next_entry rows n s)
    where
      same_cell : (x : Next) → cell_outcome rows n s how x ≡ cell_outcome rows n s plain x
      same_cell no_entry = refl
      same_cell (entry_at r p (E.Cell c)) = refl
      same_cell (entry_at r p (E.OutsideHeap k)) = refl
  cell_in Scaled s how = rw (next_seen (n - s.row) s.row s.passed) (cell_seen s how (next_entry rows n s))

  -- what is left of a row, in either reading
  pub rest_in : (m : Reading) (s : State) → rest (in_reading l m rows) n s ≡ gathered_as l m (rest rows n s)
  rest_in Plain s = sym (as_plain (rest rows n s))
  rest_in Scaled s = rest_seen s ∙ as_scaled (rest rows n s)

  row_in : (m : Reading) (s : State) (how : How) (list : List Cell)
      → row_outcome (in_reading l m rows) n s how list (rest (in_reading l m rows) n s)
      ≡ in_outcome m (row_outcome rows n s plain list (rest rows n s))
  row_in Plain s how list = same_row (rest rows n s)
    where
      same_row : (g : Gathered) → row_outcome rows n s how list g ≡ row_outcome rows n s plain list g
      same_row (all_cells cs) = refl
      same_row (outside k) = refl
  row_in Scaled s how list = rw (rest_seen s) (row_seen s how list (rest rows n s))

  end_in : (m : Reading) (s : State) (list : List Cell)
      → record { reply = at_end; list = list; state = s } ≡ in_outcome m (record { reply = at_end; list = list; state = s })
  end_in Plain s list = refl
  end_in Scaled s list = refl

  outcome_in : (s : State) (x : Step) → walk_step l rows n s x ≡ in_outcome (reading_of x) (walk_step l rows n s (plainly x))
  unfolding walk_step
  outcome_in s (read_cell how) = cell_in how.reading s how
  outcome_in s (read_row how list) =
      by_both (λ (x y : Outcome). x ≡ in_outcome how.reading y) (ltb s.row n)
      (λ _. row_in how.reading s how list) (λ _. end_in how.reading s list)
  outcome_in s (seek r) = refl

-- ---- a step of a cursor, in either reading

with_in : (l : BinTable) (rows : ℕ → List Entry) (n choice : ℕ) (heap : Bool) (m : Reading) (o : Outcome)
    → with_cursor choice heap (in_outcome l rows n m o) ≡ in_result l m (with_cursor choice heap o)
with_in l rows n choice heap Plain o = refl
with_in l rows n choice heap Scaled o = refl

-- what does not belong gets the same 10
ten_in : (l : BinTable) (c : TableData) (m : Reading) (list : List Cell)
    → record { reply = refused 10 0; cursor = c; list = list } ≡ in_result l m (record { reply = refused 10 0; cursor = c; list = list })
ten_in l c Plain list = refl
ten_in l c Scaled list = refl

lent_plainly : (x : Step) → lent x ≡ lent (plainly x)
lent_plainly (read_cell how) = refl
lent_plainly (read_row how list) = refl
lent_plainly (seek r) = refl

-- whatever the layout, the area and the cursor
pub step_in : (l : BinTable) (a : List ℕ) (c : TableData) (x : Step)
    → cursor_step l a c x ≡ in_result l (reading_of x) (cursor_step l a c (plainly x))
unfolding cursor_step
step_in l a c x =
    let rows = row_entries l a c.choice c.heap in
    by_both (λ (o u : StepResult). o ≡ in_result l (reading_of x) u) (belongs l a c)
    (λ _. ap (with_cursor c.choice c.heap) (outcome_in l rows l.naxis2 (state_of c) x)
    ∙ with_in l rows l.naxis2 c.choice c.heap (reading_of x) (walk_step l rows l.naxis2 (state_of c) (plainly x)))
    (λ _. rw (lent_plainly x) (ten_in l c (reading_of x) (lent (plainly x))))

-- so the cursor after it is that of the plain step
pub cursor_in : (l : BinTable) (a : List ℕ) (c : TableData) (x : Step) → (cursor_step l a c x).cursor ≡ (cursor_step l a c (plainly x)).cursor
cursor_in l a c x = ap (λ (o : StepResult). o.cursor) (step_in l a c x) ∙ same (reading_of x) (cursor_step l a c (plainly x))
  where
    same : (m : Reading) (o : StepResult) → (in_result l m o).cursor ≡ o.cursor
    same Plain o = refl
    same Scaled o = refl

-- a list of steps that mix both readings comes to the same steps read plainly, each result in its step's reading
pub run_in : (l : BinTable) (a : List ℕ) (c : TableData) (xs : List Step) → run l a c xs ≡ in_results l xs (run l a c (map plainly xs))
unfolding run in_results cursor_step
run_in l a c [] = refl
run_in l a c (x ∷ xs) =
    rw (cursor_in l a c x, run_in l a (cursor_step l a c (plainly x)).cursor xs)
    (ap (λ (o : StepResult). o ∷ in_results l xs (run l a (cursor_step l a c (plainly x)).cursor (map plainly xs))) (step_in l a c x))

-- so its cursors are those of the plain steps, after each step
pub cursors_in : (l : BinTable) (a : List ℕ) (c : TableData) (xs : List Step)
    → map (λ (o : StepResult). o.cursor) (run l a c xs) ≡ map (λ (o : StepResult). o.cursor) (run l a c (map plainly xs))
unfolding run
cursors_in l a c [] = refl
cursors_in l a c (x ∷ xs) =
    rw (cursor_in l a c x) (ap (λ (cs : List TableData). (cursor_step l a c (plainly x)).cursor ∷ cs) (cursors_in l a (cursor_step l a c (plainly x)).cursor xs))
