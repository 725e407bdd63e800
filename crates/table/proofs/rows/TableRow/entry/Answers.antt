-- `entry` meets its contract: the entry stands in the column that the iterator gave, or further on.
use Rattle.std.proofs.Common.{◌≡◌, ℕ, suc, ◌+◌, ◌-◌, ◌*◌, ◌<◌, ◌≤◌, List, length, get_or, refl, sym, ◌∙◌, ap, subst, arith}
use Rattle.layout.specs.declared.BinTable.{BinTable}
use Rattle.layout.specs.Layout.{data_limit}
use Rattle.cell.specs.declared.Field.{Field}
use Rattle.cell.specs.Field.{field, size_of, ItemsInside}
use Rattle.walk.specs.declared.TableData.{TableData}
use Rattle.walk.specs.declared.Entry.{Entry}
use Rattle.walk.specs.declared.Entry.TheVariants.{OutsideHeap}
use Rattle.walk.specs.Plain.{column_of, field_of, column_size, entry_in}
use Rattle.walk.proofs.Inside.{fits_layout, items_bound}
use Rattle.walk.proofs.Laws.{from, from_row, length_from, at_here, at_later}
use Rattle.table.specs.declared.pass.Chosen.{Chosen}
use Rattle.cell.specs.declared.Heap.{Heap}
use Rattle.table.specs.Scan.{heap_of}
use Rattle.table.proofs.ToNext.{next_from_lem}
use Rattle.table.proofs.Columns.{Gave, gave, ended_from}
use Rattle.table.proofs.rows.TableRow.entry.Goals.{After-read_field-field}
use Rattle.table.proofs.rows.TableRow.entry.Goals as goal

-- the field x of column c, where the code reads it
field_is : (l : BinTable) (a : List ℕ) (u : TableData) (c start : ℕ) (h : Heap) → start ≡ u.row * l.naxis1 → h ≡ heap_of l u.heap
    → (x : Field) → x ≡ field a (start + (column_of l c).start) (column_of l c) h.followed h.start h.end → x ≡ field_of l a u.heap u.row c
unfolding field_of
field_is l a u c start h s e x f = rw (s, e) at f

-- entry k of the columns from `next` on, where the iterator gave column c, whose field x has n entries
module _ (l : BinTable) (a : List ℕ) (u : TableData) (next c k n : ℕ) (t : Chosen) (g : Gave u.choice l.tfields next c t) (x : Field)
    (f : x ≡ field_of l a u.heap u.row c) (s : n ≡ size_of x) where
  sized : n ≡ column_size l a u.choice u.heap u.row c
  sized = s ∙ ap size_of f ∙ rw g.picked

  on : from l a u.choice u.heap u.row next ≡ from l a u.choice u.heap u.row c
  on = next_from_lem u.choice next c g.is l a u.heap u.row

  here : k < n → get_or (from l a u.choice u.heap u.row next) k (OutsideHeap 0) ≡ entry_in (column_of l c) a u.row c x k
  here h = rw (on, f) (at_here l a u.choice u.heap u.row c k (OutsideHeap 0) g.column (rw sized at h))

  later : n ≤ k → get_or (from l a u.choice u.heap u.row next) k (OutsideHeap 0) ≡ get_or (from l a u.choice u.heap u.row (suc c)) (k - n) (OutsideHeap 0)
  later h = rw (on, sized) (at_later l a u.choice u.heap u.row c k (OutsideHeap 0) g.column (rw sized at h))

  inside : n ≤ k → k < length (from l a u.choice u.heap u.row next) → k - n < length (from l a u.choice u.heap u.row (suc c))
  inside h i = omega (arith, sized, ap length on, length_from l a u.choice u.heap u.row c g.column)

pub loop-c-init : goal.loop-c-init
loop-c-init c =
    let l = c.args.self.now.layout.now in
    let a = c.args.self.now.area.now in
    let u = c.args.self.now.cursor in
    let e = from_row l a u.choice u.heap u.row c.args.self.now.inside in
    rw (c.into_iter-c-iterator.ensures.into_iter_gives, c.chosen_columns-c-items.ensures)
    record {
      over = record { choice_is = refl; columns = refl };
      inside = rw e at c.requires;
      same = ap (λ (es : List Entry). get_or es u.passed (OutsideHeap 0)) e;
    }

-- the iterator gave a column, whose field was read
module _ (c : After-read_field-field) where
  given : Gave c.args.self.now.cursor.choice c.args.self.now.layout.now.tfields c.loop-c.c-iterator.next c.in-Some.c c.next.new.self
  given =
      gave c.args.self.now.cursor.choice c.args.self.now.layout.now.tfields c.span-start.ensures.few c.loop-c.c-iterator c.next.new.self c.loop-c.invariant.over
      c.in-Some.c c.in-Some.ensures.steps

  own : c.read_field-field.result ≡ field_of c.args.self.now.layout.now c.args.self.now.area.now c.args.self.now.cursor.heap c.args.self.now.cursor.row c.in-Some.c
  own =
      field_is c.args.self.now.layout.now c.args.self.now.area.now c.args.self.now.cursor c.in-Some.c _ _ c.span-start.ensures.start c.span-start.ensures.heap _
      c.read_field-field.ensures

pub entry_in-requires : goal.entry_in-requires
entry_in-requires c =
    let r = c.args.self.now in
    let i = (goal.at.entry_in-requires c).After-read_field-field in (
      rw c.field_size-size.ensures at c.if-left-size.true,
      subst (ItemsInside data_limit) (sym (own i))
          (items_bound r.layout.now (fits_layout r.layout.now r.area.now r.fit) r.area.now r.cursor.heap r.cursor.row c.in-Some.c r.inside (given i).column),
    )

pub returns-then-left-size : goal.returns-then-left-size
returns-then-left-size c =
    let r = c.args.self.now in
    let s = c.loop-c in
    let i = (goal.at.returns-then-left-size c).After-read_field-field in
    c.entry_in.ensures
    ∙ sym
    (s.invariant.same
    ∙ here r.layout.now r.area.now r.cursor s.c-iterator.next c.in-Some.c s.left _ _ (given i) _ (own i) c.field_size-size.ensures c.if-left-size.true)

pub loop-c-preserved : goal.loop-c-preserved
loop-c-preserved c =
    let r = c.args.self.now in
    let s = c.loop-c in
    let i = (goal.at.loop-c-preserved c).After-read_field-field in
    record {
      over = (given i).over;
      inside = rw (given i).later
          (inside r.layout.now r.area.now r.cursor s.c-iterator.next c.in-Some.c s.left _ _ (given i) _ (own i) c.field_size-size.ensures c.if-left-size.false s.invariant.inside);
      same = rw (given i).later
          (s.invariant.same
          ∙ later r.layout.now r.area.now r.cursor s.c-iterator.next c.in-Some.c s.left _ _ (given i) _ (own i) c.field_size-size.ensures c.if-left-size.false);
    }

pub returns : goal.returns
returns c =
    let l = c.args.self.now.layout.now in
    let a = c.args.self.now.area.now in
    let u = c.args.self.now.cursor in
    let e = ended_from u.choice l.tfields c.span-start.ensures.few c.loop-c.c-iterator c.next.new.self c.loop-c.invariant.over c.in-None.ensures.steps
    l refl a u.heap u.row in
    absurd (omega (arith, rw e at c.loop-c.invariant.inside))
