-- The first i items of the field are stored.
use denote.Param.{number}
use Rattle.std.proofs.Common.{◌≡◌}
use Rattle.walk.specs.Readings.{reading_by}
use Rattle.row.specs.contracts.fill.fill_items.{SCALED-type}
use Rattle.row.specs.Plan.{item_cell, stored_at}
use Rattle.row.proofs.fill.fill_items.Given as goal

abbrev pub invariant-loop-i : goal.invariant-loop-i
invariant-loop-i g l = l.list ≡ stored_at (item_cell (reading_by (SCALED-type (number g.row.SCALED))) l.area l.plan l.ty l.start) l.at l.i l.initial.list
