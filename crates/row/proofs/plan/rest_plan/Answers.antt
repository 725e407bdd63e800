-- `rest_plan` meets its contract: the cursor's row is one of the table, so the next row is within the limit.
use Rattle.std.proofs.Common.{arith}
use Rattle.walk.proofs.Inside.{fits_limits}
use Rattle.row.proofs.plan.rest_plan.Goals as goal

pub at_next_row-requires : goal.at_next_row-requires
at_next_row-requires c = omega (arith, c.args.row.now.inside, (fits_limits c.args.row.now.layout.now c.args.row.now.area.now c.args.row.now.fit).rows)
