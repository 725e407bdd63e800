-- `row_cell` meets its contract: the row is read into the first cells of the list, over the cursor that is lent, and the
-- whole of the list is looked at afterwards.
use Rattle.row.specs.Plan.{stepped}
use Rattle.row.proofs.Owned.{own_step, own_cell}
use Rattle.row.proofs.owners.row_cell.Goals as goal

pub returns-clause-step : goal.returns-clause-step
returns-clause-step c =
    own_step c.args.layout c.args.area.now c.args.cursor c.args.how c.args.filler c.args.n _ c.min-len.ensures
    (stepped c.next_row-answer.new.cursor c.next_row-answer.result) c.next_row-answer.new.list c.next_row-answer.ensures

pub returns-clause-cell : goal.returns-clause-cell
returns-clause-cell c =
    own_cell c.args.layout c.args.area.now c.args.cursor c.args.how c.args.filler c.args.n _ c.min-len.ensures
    (stepped c.next_row-answer.new.cursor c.next_row-answer.result) c.next_row-answer.new.list c.next_row-answer.ensures _ c.args.k _
    c.min-i.ensures c.next_row-answer.auto.list
