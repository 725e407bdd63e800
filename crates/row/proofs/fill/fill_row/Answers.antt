-- `fill_row` meets its contract: each turn stores the field of a column, and passes over the columns up to the next that is chosen.
use Rattle.std.proofs.Common.{ℕ, ◌≡◌, ◌+◌, ◌-◌, List, suc, refl, sym, ◌∙◌, length, arith}
use Rattle.layout.specs.declared.Column.{Column}
use Rattle.cell.specs.declared.Cell.{Cell}
use Rattle.walk.specs.declared.Reading.{Reading}
use denote.Param.{number}
use Rattle.walk.specs.Readings.{reading_by}
use Rattle.row.specs.contracts.fill.fill_row.{SCALED-type}
use Rattle.table.specs.Scan.{next_chosen}
use Rattle.table.specs.declared.pass.Chosen.{Chosen}
use Rattle.table.proofs.Columns.{Gave, gave, ended}
use Rattle.row.specs.declared.plan.RowPlan.{RowPlan}
use Rattle.row.specs.declared.plan.FieldPlan.{FieldPlan}
use Rattle.row.specs.Plan.{planned_cell, stored_at, plan_at, filled, RowFits}
use Rattle.row.proofs.Lengths.{FieldFits, filled_none, filled_more, fits_more, filled_next, fits_next}
use Rattle.row.proofs.fill.fill_row.Given.{Over}
use Rattle.row.proofs.fill.fill_row.Goals.{In-Some}
use Rattle.row.proofs.fill.fill_row.Goals as goal

-- a turn, in which the iterator gave column c of those from `next` on
module _ (columns : List Column) (a : List ℕ) (mode : Reading) (p : RowPlan) (next c skip at : ℕ) (t : Chosen) (g : Gave p.cursor.choice p.tfields next c t) where
  one_less : p.tfields - c ≡ suc (p.tfields - suc c)
  one_less = omega (arith, g.column)

  module _ (m : ℕ) (w : RowFits columns a p next (p.tfields - next) skip at m) where
    on : FieldFits columns a p mode c skip at m × RowFits columns a p (suc c) (p.tfields - suc c) (plan_at columns a p c skip).skip (at + (plan_at columns a p c skip).n) m
    on = fits_more columns a p mode c (p.tfields - suc c) skip at m (rw one_less at (fits_next columns a p mode p.tfields skip at next c g.is m w))

    later_fits : (f : FieldPlan) → f ≡ plan_at columns a p c skip → RowFits columns a p (suc c) (p.tfields - suc c) f.skip (at + f.n) m
    later_fits f e = rw e on.1

  stored : (ys zs : List Cell) (f : FieldPlan) → f ≡ plan_at columns a p c skip → zs ≡ stored_at (planned_cell mode a f) at f.n ys
      → filled columns a p mode (suc c) (p.tfields - suc c) f.skip (at + f.n) zs ≡ filled columns a p mode next (p.tfields - next) skip at ys
  stored ys zs f e s =
      rw (s, e) (sym (filled_next columns a p mode p.tfields skip at next c g.is ys ∙ rw one_less (filled_more columns a p mode c (p.tfields - suc c) skip at ys)))

-- the iterator gave a column, whose cells lie in the list
abbrev mode_of : Over → Reading
mode_of g = reading_by (SCALED-type (number g.row.SCALED))

module _ (g : Over) (c : In-Some g) where
  given : Gave c.args.plan.cursor.choice c.args.plan.tfields c.loop-c.c-iterator.next c.in-Some.c c.next.new.self
  given =
      gave c.args.plan.cursor.choice c.args.plan.tfields c.requires.0 c.loop-c.c-iterator c.next.new.self c.loop-c.invariant.over c.in-Some.c
      c.in-Some.ensures.steps

  field_fits : FieldFits c.args.columns.now c.args.area.now c.args.plan (mode_of g) c.in-Some.c c.loop-c.skip c.loop-c.at (length c.args.list.now)
  field_fits = (on c.args.columns.now c.args.area.now (mode_of g) c.args.plan c.loop-c.c-iterator.next c.in-Some.c c.loop-c.skip c.loop-c.at _ given _ c.loop-c.invariant.fits).0

pub field_plan-planned-requires : goal.field_plan-planned-requires
field_plan-planned-requires g c =
    let i = (goal.at.field_plan-planned-requires g c).In-Some in ((given g i).picked, (field_fits g i).0)

pub fill_field-requires : goal.fill_field-requires
fill_field-requires g c =
    let w = field_fits g (goal.at.fill_field-requires g c).In-Some in rw (c.field_plan-planned.ensures, c.loop-c.auto.list) (w.1.1, w.1.0)

pub overflow_add-at : goal.overflow_add-at
overflow_add-at g c =
    let w = field_fits g (goal.at.overflow_add-at g c).In-Some in omega (arith, rw (← c.field_plan-planned.ensures) at w.1.1)

pub loop-c-preserved : goal.loop-c-preserved
loop-c-preserved g c =
    let p = c.args.plan in
    let a = c.args.area.now in
    let s = c.loop-c in
    let f = c.field_plan-planned in
    let v = given g (goal.at.loop-c-preserved g c).In-Some in
    record {
      over = v.over;
      same = rw v.later (stored c.args.columns.now a (mode_of g) p s.c-iterator.next c.in-Some.c s.skip s.at _ v s.list _ f.result f.ensures c.fill_field.ensures ∙ s.invariant.same);
      fits = rw v.later (later_fits c.args.columns.now a (mode_of g) p s.c-iterator.next c.in-Some.c s.skip s.at _ v _ s.invariant.fits f.result f.ensures);
    }

pub returns : goal.returns
returns g c =
    let p = c.args.plan in
    let s = c.loop-c in
    let n = next_chosen p.cursor.choice s.c-iterator.next in
    let e : p.tfields - n ≡ 0 = omega (arith, ended p.cursor.choice p.tfields c.requires.0 s.c-iterator c.next.new.self s.invariant.over c.in-None.ensures.steps) in
    sym (filled_none c.args.columns.now c.args.area.now p (mode_of g) n s.skip s.at s.list)
    ∙ rw e at (sym (filled_next c.args.columns.now c.args.area.now p (mode_of g) p.tfields s.skip s.at s.c-iterator.next n refl s.list))
    ∙ s.invariant.same
