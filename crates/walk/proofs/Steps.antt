-- The calls, case by case: what each comes to where a function has found out which case it is.
-- Assumes nothing.
use Prim.Native.Nat.{ℕ, ◌-◌, ◌<◌}
use mathlib.Core.Path.{◌≡◌, refl, ap, ◌∙◌}
use mathlib.Core.Bool.{Bool, true, false, cond, ◌&&◌}
use mathlib.Core.List.{List}
use lib.Dec.{ltb}
use borrow.Author.Tests.{lt-ltb}
use Rattle.ascii.proofs.Cases.{both}
use Rattle.layout.specs.declared.BinTable.{BinTable}
use Rattle.walk.specs.declared.TableData.{TableData}
use Rattle.walk.specs.Plain.{row_entries}
use Rattle.walk.specs.declared.Entry.TheVariants as E
use Rattle.walk.specs.declared.Reading.{Reading}
use Rattle.walk.specs.declared.Reading.TheVariants.{Plain, Scaled}
use Rattle.walk.specs.declared.How.{How}
use Rattle.walk.specs.Scaled.{plain}
use Rattle.walk.specs.Readings.{entry_as, in_result}
use Rattle.walk.specs.Walk.{Step, read_cell, seek, lent, refused, start, Next, entry_at, no_entry, next, cell_outcome, seek_outcome, place_ok, walk_step}
use Rattle.walk.specs.Step.{fits, choice_ok, belongs, state_of, cursor_at, Selection, wanted, choice_of, opened, not_opened, open_with, with_cursor, cursor_step}
use Rattle.walk.proofs.Readings.{step_in}
use Rattle.walk.proofs.Choice.{choice_any, chosen_of, chosen_some, choice_none}

-- ---- opening

pub open_fit : (l : BinTable) (a : List ℕ) (sel : Selection) (heap : Bool) → fits l a ≡ true
    → open_with l a sel heap ≡ cond (ltb 0 (choice_of l sel)) (opened (cursor_at (choice_of l sel) heap start)) (not_opened 11)
unfolding open_with
open_fit l a sel heap e = rw (e, choice_any l sel)

pub open_unfit : (l : BinTable) (a : List ℕ) (sel : Selection) (heap : Bool) → fits l a ≡ false → open_with l a sel heap ≡ not_opened 10
unfolding open_with
open_unfit l a sel heap e = rw e

-- so a cursor is opened just where a column is wanted
pub opens_some : (l : BinTable) (a : List ℕ) (sel : Selection) (heap : Bool) (c : ℕ) → fits l a ≡ true → c < l.tfields → wanted sel c ≡ true
    → open_with l a sel heap ≡ opened (cursor_at (choice_of l sel) heap start)
opens_some l a sel heap c e h w = rw (open_fit l a sel heap e, lt-ltb 0 (choice_of l sel) (chosen_some (choice_of l sel) c (rw (chosen_of l sel c, lt-ltb c l.tfields h, w))))

pub opens_none : (l : BinTable) (a : List ℕ) (sel : Selection) (heap : Bool) → fits l a ≡ true → ((c : ℕ) → c < l.tfields → wanted sel c ≡ false)
    → open_with l a sel heap ≡ not_opened 11
opens_none l a sel heap e none = rw (open_fit l a sel heap e, choice_none l sel none)

-- ---- a step

-- what does not belong gets a 10 and is left as it is
pub step_unfit : (l : BinTable) (a : List ℕ) (c : TableData) (x : Step) → belongs l a c ≡ false
    → cursor_step l a c x ≡ record { reply = refused 10 0; cursor = c; list = lent x }
unfolding cursor_step
step_unfit l a c x e = rw e

module _ (l : BinTable) (a : List ℕ) (c : TableData) (fit : belongs l a c ≡ true) where
  -- a plain cell read at the next entry, whichever it is
  pub cell_at : (x : Next) → next (row_entries l a c.choice c.heap) l.naxis2 (l.naxis2 - c.row) c.row c.passed ≡ x
      → cursor_step l a c (read_cell plain) ≡ with_cursor c.choice c.heap (cell_outcome (row_entries l a c.choice c.heap) l.naxis2 (state_of c) plain x)
  unfolding cursor_step walk_step
  cell_at x e = rw (fit, e)

  -- a cell read in any reading: at the next entry of the plain lists, in that reading
  abbrev next_as : Reading → Next → Next
  next_as m no_entry = no_entry
  next_as m (entry_at r p e) = entry_at r p (entry_as l m e)

  as_read : (m : Reading) (x : Next)
      → in_result l m (with_cursor c.choice c.heap (cell_outcome (row_entries l a c.choice c.heap) l.naxis2 (state_of c) plain x))
      ≡ with_cursor c.choice c.heap (cell_outcome (row_entries l a c.choice c.heap) l.naxis2 (state_of c) plain (next_as m x))
  as_read Plain no_entry = refl
  as_read Plain (entry_at r p e) = refl
  as_read Scaled no_entry = refl
  as_read Scaled (entry_at r p (E.Cell k)) = refl
  as_read Scaled (entry_at r p (E.OutsideHeap k)) = refl

  pub read_at : (how : How) (x : Next) → next (row_entries l a c.choice c.heap) l.naxis2 (l.naxis2 - c.row) c.row c.passed ≡ x
      → cursor_step l a c (read_cell how)
      ≡ with_cursor c.choice c.heap (cell_outcome (row_entries l a c.choice c.heap) l.naxis2 (state_of c) plain (next_as how.reading x))
  read_at how x e = step_in l a c (read_cell how) ∙ ap (in_result l how.reading) (cell_at x e) ∙ as_read how.reading x

  pub seek_at : (r : ℕ) → cursor_step l a c (seek r) ≡ with_cursor c.choice c.heap (seek_outcome l.naxis2 (state_of c) r)
  unfolding cursor_step walk_step
  seek_at r = rw fit

pub belongs_fits : (l : BinTable) (a : List ℕ) (c : TableData) → belongs l a c ≡ true → fits l a ≡ true
unfolding belongs
belongs_fits l a c e =
    (both (fits l a) (choice_ok l c.choice && place_ok (row_entries l a c.choice c.heap) l.naxis2 c.row c.passed) e).0
