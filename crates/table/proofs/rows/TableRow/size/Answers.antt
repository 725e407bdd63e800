-- `size` meets its contract: the columns that are passed over are not chosen, so they have no entry.
use Rattle.std.proofs.Common.{◌≡◌, ℕ, suc, ◌+◌, ◌*◌, List, length, ap, refl, arith}
use Rattle.layout.specs.declared.BinTable.{BinTable}
use Rattle.cell.specs.Field.{field, size_of}
use Rattle.walk.specs.declared.TableData.{TableData}
use Rattle.walk.specs.Plain.{column_of, field_of, column_size, row_entries}
use Rattle.walk.proofs.Inside.{fits_layout, row_bound}
use Rattle.walk.proofs.Laws.{from, from_row, length_from}
use Rattle.table.specs.declared.pass.Chosen.{Chosen}
use Rattle.cell.specs.declared.Heap.{Heap}
use Rattle.table.specs.Scan.{heap_of}
use Rattle.table.proofs.ToNext.{next_from_lem}
use Rattle.table.proofs.Columns.{Gave, gave, ended_from}
use Rattle.table.proofs.rows.TableRow.size.Goals.{In-Some}
use Rattle.table.proofs.rows.TableRow.size.Goals as goal

-- with the entries of a column that the iterator gave, the count goes on
module _ (l : BinTable) (a : List ℕ) (u : TableData) (start next c total n : ℕ) (h : Heap) (t : Chosen)
    (place : start ≡ u.row * l.naxis1) (heap : h ≡ heap_of l u.heap) (g : Gave u.choice l.tfields next c t)
    (counted : total + length (from l a u.choice u.heap u.row next) ≡ n) where
  grows : total + (size_of (field a (start + (column_of l c).start) (column_of l c) h.followed h.start h.end) + length (from l a u.choice u.heap u.row (suc c))) ≡ n
  unfolding field_of
  grows =
      let k : column_size l a u.choice u.heap u.row c ≡ size_of (field a (start + (column_of l c).start) (column_of l c) h.followed h.start h.end) = rw (g.picked, place, heap) in
      omega (arith, counted, k, ap length (next_from_lem u.choice next c g.is l a u.heap u.row), length_from l a u.choice u.heap u.row c g.column)

pub loop-c-init : goal.loop-c-init
loop-c-init c =
    rw (c.into_iter-c-iterator.ensures.into_iter_gives, c.chosen_columns-c-items.ensures)
    record {
      over = record { choice_is = refl; columns = refl };
      counted = rw (from_row c.args.self.now.layout.now c.args.self.now.area.now c.args.self.now.cursor.choice c.args.self.now.cursor.heap c.args.self.now.cursor.row c.args.self.now.inside) (omega arith);
    }

-- the iterator gave a column
module _ (c : In-Some) where
  given : Gave c.args.self.now.cursor.choice c.args.self.now.layout.now.tfields c.loop-c.c-iterator.next c.in-Some.c c.next.new.self
  given =
      gave c.args.self.now.cursor.choice c.args.self.now.layout.now.tfields c.span-start.ensures.few c.loop-c.c-iterator c.next.new.self c.loop-c.invariant.over
      c.in-Some.c c.in-Some.ensures.steps

  grown :
      let r = c.args.self.now in
      let h = c.span-start.result.heap in
      c.loop-c.total + (size_of (field r.area.now (c.span-start.result.start + (column_of r.layout.now c.in-Some.c).start) (column_of r.layout.now c.in-Some.c) h.followed h.start h.end)
      + length (from r.layout.now r.area.now r.cursor.choice r.cursor.heap r.cursor.row (suc c.in-Some.c)))
      ≡ length (row_entries r.layout.now r.area.now r.cursor.choice r.cursor.heap r.cursor.row)
  grown =
      grows c.args.self.now.layout.now c.args.self.now.area.now c.args.self.now.cursor c.span-start.result.start c.loop-c.c-iterator.next c.in-Some.c c.loop-c.total _
      c.span-start.result.heap c.next.new.self c.span-start.ensures.start c.span-start.ensures.heap given c.loop-c.invariant.counted

pub overflow_add-total : goal.overflow_add-total
overflow_add-total c =
    let r = c.args.self.now in
    omega (
      arith,
      grown (goal.at.overflow_add-total c).In-Some,
      c.field_entries-total.ensures,
      row_bound r.layout.now (fits_layout r.layout.now r.area.now r.fit) r.area.now r.cursor.choice r.cursor.heap r.cursor.row,
    )

pub loop-c-preserved : goal.loop-c-preserved
loop-c-preserved c =
    let i = (goal.at.loop-c-preserved c).In-Some in
    record { over = (given i).over; counted = rw ((given i).later, c.field_entries-total.ensures) (omega (arith, grown i)) }

pub returns : goal.returns
returns c =
    let l = c.args.self.now.layout.now in
    let a = c.args.self.now.area.now in
    let u = c.args.self.now.cursor in
    let e = ended_from u.choice l.tfields c.span-start.ensures.few c.loop-c.c-iterator c.next.new.self c.loop-c.invariant.over c.in-None.ensures.steps
    l refl a u.heap u.row in
    omega (arith, rw e at c.loop-c.invariant.counted)
