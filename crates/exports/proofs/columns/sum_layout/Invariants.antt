-- The loop of `sum_layout` keeps: the sum so far with the columns that are left is the sum of all.
use Rattle.std.proofs.Common.{◌≡◌}
use Rattle.exports.specs.Checksum.{layout_sum}
use Rattle.exports.proofs.Sums.{rest_sum}
use Rattle.exports.proofs.columns.sum_layout.Given as goal

abbrev pub invariant-loop-c : goal.invariant-loop-c
invariant-loop-c l =
    rest_sum l.header l.layout l.sum l.c ≡ layout_sum l.header l.layout
