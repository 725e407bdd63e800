-- `columns_ok`: the columns are in order just where those that are left are.
use Rattle.std.proofs.Common.{◌*◌, ◌≡◌, ◌≤◌, drop}
use Rattle.layout.specs.Layout.{columns_ok, columns_of}
use Rattle.layout.proofs.limits.columns_ok.Given as goal

abbrev pub invariant-loop-column : goal.invariant-loop-column
invariant-loop-column l =
    (l.at ≤ l.column-index * 134217728)
    × (columns_ok l.fn.layout.naxis1 0 (columns_of l.fn.layout) ≡ columns_ok l.fn.layout.naxis1 l.at (drop l.column-index l.column-items))
