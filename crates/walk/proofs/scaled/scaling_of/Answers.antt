-- `scaling_of` meets its contract: where the layout has no such column, the default's floats are no numbers.
use Rattle.std.proofs.Common.{sym, ap}
use Rattle.std.proofs.lemmas.List.{get_or_past}
use Rattle.std.specs.Float.Ieee.{of_bits}
use borrow.Author.Tests.{ltb-false}
use Rattle.layout.specs.declared.Column.{Column}
use Rattle.layout.specs.Layout.{no_column}
use Rattle.walk.proofs.scaled.scaling_of.Goals as goal

pub returns-in-None : goal.returns-in-None
unfolding of_bits
returns-in-None c =
    let columns = c.args.layout.now.columns in
    let past = get_or_past columns c.args.column no_column (ltb-false c.args.column _ (sym c.in-None.ensures.lookup.0)) in
    sym (ap (λ (x : Column). x.scaling) past)
