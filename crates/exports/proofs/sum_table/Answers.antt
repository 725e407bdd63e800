-- `sum_table` meets its contract: a refusal ends the reads before the first, and else they begin at
-- the table's start.
use Rattle.std.proofs.Common.{◌∙◌}
use Rattle.exports.specs.Reads.{by_cells}
use Rattle.exports.specs.Loops.{cells_from}
use Rattle.exports.proofs.Opened.{cell_reads_lem, sum_refused, sum_passed}
use Rattle.exports.proofs.sum_table.Goals as goal

pub returns-in-Err : goal.returns-in-Err
returns-in-Err g c =
    let a = c.args in
    c.refused.ensures ∙ sum_refused by_cells cells_from cell_reads_lem a.area.now a.cols.now a.heap a.how.reading a.header.now c.in-Err.refusal c.in-Err.ensures.check

pub returns-in-Ok : goal.returns-in-Ok
returns-in-Ok g c =
    let a = c.args in
    c.sum_cells.ensures
    ∙ sum_passed by_cells cells_from cell_reads_lem a.area.now a.cols.now a.heap a.how.reading a.header.now _ c.in-Ok.ensures.check c.in-Ok.ensures.start
