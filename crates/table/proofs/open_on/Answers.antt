-- `open_on` meets its contract: what opening comes to where the layout and the area belong together, and where not.
use Rattle.std.proofs.Common.{sym, ◌∙◌, arith}
use borrow.Author.Tests.{lt-ltb}
use Rattle.walk.proofs.Inside.{fits_limits}
use Rattle.walk.proofs.Steps.{open_fit, open_unfit}
use Rattle.table.proofs.open_on.Goals as goal

pub returns-then-not-fits : goal.returns-then-not-fits
returns-then-not-fits g c =
    λ s w. sym (open_unfit c.args.layout c.args.area.now s c.args.heap (sym c.if-not-fits.ensures))

pub columns-choice-requires-clause-few : goal.columns-choice-requires-clause-few
columns-choice-requires-clause-few g c = (fits_limits c.args.layout c.args.area.now (sym c.if-not-fits.ensures)).columns

pub returns-then-choice-eq0 : goal.returns-then-choice-eq0
returns-then-choice-eq0 g c =
    λ s w.
    sym
    (open_fit c.args.layout c.args.area.now s c.args.heap (sym c.if-not-fits.ensures)
    ∙ rw (← c.columns-choice.ensures s w, c.if-choice-eq0.true))

pub returns : goal.returns
returns g c =
    λ s w.
    sym
    (open_fit c.args.layout c.args.area.now s c.args.heap (sym c.if-not-fits.ensures)
    ∙ rw (← c.columns-choice.ensures s w, lt-ltb 0 c.columns-choice.result (omega arith)))
