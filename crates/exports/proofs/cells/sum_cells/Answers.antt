-- The goal that `sum_cells` leaves: a cell that was read is one less to come.
use Rattle.std.proofs.Common.{◌≡◌, rules}
use Rattle.walk.specs.Walk.{read_cell}
use Rattle.walk.specs.Step.{cell_result, cursor_step}
use Rattle.exports.proofs.CellReads.{cell_fewer}
use Rattle.exports.proofs.cells.sum_cells.Goals as goal
use Rattle.exports.proofs.cells.sum_cells.Goals.{then-this-ne0, else-this-ne0}

pub loop-current-smaller : goal.loop-current-smaller
loop-current-smaller g c =
    let r = c.if-this-ne0.stepped in
    let read : cell_result r.cursor r.answer ≡ cursor_step c.args.layout c.args.area.now c.loop-current.current (read_cell c.args.how) =
    elim c.if-this-ne0.branch [ then-this-ne0 w ↦ rw w.stepped-is w.next-answer.ensures | else-this-ne0 w ↦ rw w.stepped-is w.next-stepped.ensures ] in
    cell_fewer c.args.layout c.args.area.now c.loop-current.current c.args.how r read c.in-Ok-Some.cell (search rules)
