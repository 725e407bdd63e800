-- `coentrift_sum_rows` meets its contract: a refusal ends the reads before the first, and else they begin at
-- the table's start.
use Rattle.std.proofs.Common.{◌∙◌}
use Rattle.walk.specs.Readings.{reading_by}
use Rattle.exports.specs.Reads.{by_rows, list_length}
use Rattle.exports.specs.Loops.{rows_from}
use Rattle.exports.proofs.Opened.{row_reads_lem, sum_refused, sum_passed}
use Rattle.exports.proofs.coentrift_sum_rows.Goals as goal

pub returns-in-Err : goal.returns-in-Err
returns-in-Err c =
    let a = c.args in
    c.refused.ensures ∙ sum_refused (by_rows list_length) (rows_from list_length) (row_reads_lem list_length) a.area.now a.cols.now a.heap (reading_by a.scaled) a.header.now c.in-Err.refusal c.in-Err.ensures.check

pub returns-in-Ok : goal.returns-in-Ok
returns-in-Ok c =
    let a = c.args in
    rw c.how_by.ensures at c.sum_rows.ensures
    ∙ sum_passed (by_rows list_length) (rows_from list_length) (row_reads_lem list_length) a.area.now a.cols.now a.heap (reading_by a.scaled) a.header.now _ c.in-Ok.ensures.check c.in-Ok.ensures.start
