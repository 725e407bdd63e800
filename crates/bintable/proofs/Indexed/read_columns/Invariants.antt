-- `read_columns`: the check, the array and the bytes are those of the columns so far.
use Rattle.std.proofs.Common.{◌≡◌, ◌-◌, ◌≤◌}
use Rattle.refusal.specs.Refusal.{accepted}
use Rattle.layout.specs.Layout.{row_bytes}
use Rattle.bintable.specs.Entry.{column_checks}
use Rattle.bintable.proofs.Filled.{columns_to, filled}
use Rattle.bintable.proofs.Indexed.read_columns.Given as goal

abbrev pub invariant-loop-i : goal.invariant-loop-i
invariant-loop-i l =
    (l.i ≤ l.tfields) × (column_checks l.self.header.now l.i ≡ accepted)
    × (l.columns ≡ filled l.self.header.now l.i) × (l.bytes ≡ row_bytes (columns_to l.self.header.now l.i))

abbrev pub decreases-loop-i : goal.decreases-loop-i
decreases-loop-i l = l.tfields - l.i
