-- `span` meets its contract: a table that keeps its limits has 64 columns at most.
use Rattle.walk.proofs.Inside.{fits_limits}
use Rattle.table.proofs.rows.TableRow.span.Goals as goal

pub returns-clause-few : goal.returns-clause-few
returns-clause-few c = (fits_limits c.args.self.now.layout.now c.args.self.now.area.now c.args.self.now.fit).columns
