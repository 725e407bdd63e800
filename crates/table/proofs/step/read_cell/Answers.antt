-- `read_cell` meets its contract: the place that was found is that of the next entry.
use Rattle.std.proofs.Common.{ℕ, List, ◌-◌, sym, ◌∙◌, arith}
use Rattle.walk.specs.declared.Entry.{Entry}
use Rattle.walk.specs.Plain.{row_entries}
use Rattle.walk.specs.Walk.{no_entry, next}
use Rattle.walk.proofs.Inside.{fits_limits}
use Rattle.walk.proofs.Laws.{is_next}
use Rattle.walk.proofs.Steps.{belongs_fits, read_at}
use Rattle.table.proofs.Places.{IsPlace, place_at, place_none}
use Rattle.table.proofs.step.read_cell.Goals.{In-Some}
use Rattle.table.proofs.step.read_cell.Goals as goal

pub find_entry-requires : goal.find_entry-requires
find_entry-requires c = belongs_fits c.args.layout.now c.args.area.now c.args.cursor c.requires

-- the place of the next entry was found
module _ (c : In-Some) where
  abbrev rows : ℕ → List Entry
  rows = row_entries c.args.layout.now c.args.area.now c.args.cursor.choice c.args.cursor.heap

  found : IsPlace rows c.args.layout.now.naxis2 (next rows c.args.layout.now.naxis2 (c.args.layout.now.naxis2 - c.args.cursor.row) c.args.cursor.row c.args.cursor.passed) c.in-Some.place
  found =
      place_at rows c.args.layout.now.naxis2 _ c.in-Some.place (is_next rows c.args.layout.now.naxis2 c.args.cursor.row c.args.cursor.passed)
      (sym c.find_entry.ensures ∙ c.in-Some.is)

pub invariant_of-here : goal.invariant_of-here
invariant_of-here c =
    let f = found (goal.at.invariant_of-here c).In-Some in
    record { fit = belongs_fits c.args.layout.now c.args.area.now c.args.cursor c.requires; inside = rw c.placed-2.ensures f.1.1.1 }

pub entry-requires : goal.entry-requires
entry-requires c =
    let f = found (goal.at.entry-requires c).In-Some in rw c.placed-2.ensures (rw f.1.0 at f.1.1.0)

pub read_entry-requires : goal.read_entry-requires
read_entry-requires c =
    let f = found (goal.at.read_entry-requires c).In-Some in (
      omega (
        arith,
        f.1.1.1,
        (fits_limits c.args.layout.now c.args.area.now (belongs_fits c.args.layout.now c.args.area.now c.args.cursor c.requires)).rows,
      ),
      f.1.1.0,
    )

pub returns : goal.returns
returns c =
    let f = found (goal.at.returns c).In-Some in
    c.read_entry.ensures
    ∙ rw (c.entry_as.ensures, c.entry.ensures, c.placed-2.ensures, f.1.0)
    (sym (read_at c.args.layout.now c.args.area.now c.args.cursor c.requires c.args.how _ f.0))

pub returns-in_default : goal.returns-in_default
returns-in_default c =
    let rows = row_entries c.args.layout.now c.args.area.now c.args.cursor.choice c.args.cursor.heap in
    let n = c.args.layout.now.naxis2 in
    rw c.placed.ensures
    (sym
    (read_at c.args.layout.now c.args.area.now c.args.cursor c.requires c.args.how no_entry
    (place_none rows n (next rows n (n - c.args.cursor.row) c.args.cursor.row c.args.cursor.passed)
    (sym c.find_entry.ensures ∙ c.in_default.is))))
