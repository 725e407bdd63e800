-- The goals that `add_rows` leaves: a row that was read is one less to come, and any other answer ends the loop.
use Rattle.std.proofs.Common.{◌∙◌, rules}
use Rattle.exports.proofs.RowReads.{row_fewer, rows_ended}
use Rattle.exports.proofs.rows.add_rows.Goals as goal

pub returns-in_default : goal.returns-in_default
returns-in_default c =
    c.ended.ensures
    ∙ rows_ended c.args.layout c.args.area.now c.loop-n.current c.args.how c.loop-n.list c.read_row-stepped.new.list c.read_row-stepped.result
    c.read_row-stepped.ensures c.loop-n.sum _ _ (search rules) c.loop-n.auto.list c.loop-n.invariant

pub loop-n-smaller : goal.loop-n-smaller
loop-n-smaller c =
    row_fewer c.args.layout c.args.area.now c.loop-n.current c.args.how c.loop-n.list c.read_row-stepped.new.list c.read_row-stepped.result
    c.read_row-stepped.ensures c.in-Ok-Some.n (search rules)
