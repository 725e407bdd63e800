-- `find_entry` meets its contract: the next entry stands in row r, or further on, or nowhere.
use Rattle.std.proofs.Common.{ℕ, ◌-◌, sym, ◌∙◌, ap, add-one}
use Rattle.walk.specs.Plain.{row_entries}
use Rattle.walk.specs.Walk.{next}
use Rattle.walk.proofs.Inside.{fits_limits}
use Rattle.walk.proofs.Laws.{next_end, next_here, next_skip, next_none}
use Rattle.table.proofs.NoItems.{row_none}
use Rattle.table.proofs.rows.find_entry.Goals as goal

pub any_items-requires : goal.any_items-requires
any_items-requires c = (fits_limits c.args.layout c.args.area.now c.requires).columns

pub returns-then-not-any_items : goal.returns-then-not-any_items
returns-then-not-any_items c =
    let none = sym c.any_items.ensures ∙ c.if-not-any_items.true in
    rw (next_none (row_entries c.args.layout c.args.area.now c.args.cursor.choice c.args.cursor.heap) c.args.layout.naxis2
    (λ r. row_none c.args.layout c.args.area.now c.args.cursor.choice c.args.cursor.heap r none)
    (c.args.layout.naxis2 - c.args.cursor.row) c.args.cursor.row c.args.cursor.passed)

pub returns-then-passed-size : goal.returns-then-passed-size
returns-then-passed-size c =
    rw (
      c.loop-row.invariant,
      next_here (row_entries c.args.layout c.args.area.now c.args.cursor.choice c.args.cursor.heap) c.args.layout.naxis2 c.loop-row.row
          c.loop-row.passed c.loop-row-test.true (rw c.size-size.ensures at c.if-passed-size.true),
      c.size-size.ensures,
    )

pub loop-row-preserved : goal.loop-row-preserved
loop-row-preserved c =
    let rows = row_entries c.args.layout c.args.area.now c.args.cursor.choice c.args.cursor.heap in
    let n = c.args.layout.naxis2 in
    c.loop-row.invariant
    ∙ next_skip rows n c.loop-row.row c.loop-row.passed c.loop-row-test.true (rw c.size-size.ensures at c.if-passed-size.false)
    ∙ ap (λ (r : ℕ). next rows n (n - r) r 0) (sym (add-one c.loop-row.row))

pub returns : goal.returns
returns c =
    rw (
      c.loop-row.invariant,
      next_end (row_entries c.args.layout c.args.area.now c.args.cursor.choice c.args.cursor.heap) c.args.layout.naxis2 c.loop-row.row
          c.loop-row.passed c.loop-row-test.false,
    )
