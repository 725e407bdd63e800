-- The loop of `sum_cells` keeps: the sum so far with what is left is the sum of all.
-- The measure is the number of cells left.
use Rattle.std.proofs.Common.{◌≡◌, length}
use Rattle.exports.specs.Reads.{reads_sum}
use Rattle.exports.specs.Loops.{cells_from, sum_then}
use Rattle.exports.proofs.cells.sum_cells.Given as goal

abbrev pub invariant-loop-current : goal.invariant-loop-current
invariant-loop-current g l =
    sum_then l.sum (cells_from l.layout l.area l.how.reading l.current) ≡ reads_sum (cells_from l.layout l.area l.how.reading l.fn.cursor)

abbrev pub decreases-loop-current : goal.decreases-loop-current
decreases-loop-current g l = length (cells_from l.layout l.area l.how.reading l.current).cells
