-- The loop of `add_rows` keeps: the sum so far with what is left is the sum of all.
-- The measure is the number of rows that are left.
use Rattle.std.proofs.Common.{◌≡◌, ◌-◌, length}
use Rattle.exports.specs.Reads.{reads_sum}
use Rattle.exports.specs.Loops.{rows_from, sum_then}
use Rattle.exports.proofs.rows.add_rows.Given as goal

abbrev pub invariant-loop-n : goal.invariant-loop-n
invariant-loop-n l =
    sum_then l.sum (rows_from (length l.fn.list) l.layout l.area l.how.reading l.current)
    ≡ reads_sum (rows_from (length l.fn.list) l.layout l.area l.how.reading l.fn.cursor)

abbrev pub decreases-loop-n : goal.decreases-loop-n
decreases-loop-n l = l.layout.naxis2 - l.current.row
