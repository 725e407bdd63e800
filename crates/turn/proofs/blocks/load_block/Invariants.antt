-- The loop of `load_block`: the tile has the rows before r.
use Rattle.turn.specs.Blocks.{Holds}
use Rattle.turn.proofs.blocks.load_block.Given as goal

abbrev pub invariant-loop-r : goal.invariant-loop-r
invariant-loop-r l = Holds l.table (record l.block { rows = l.r }) 64 l.tile
