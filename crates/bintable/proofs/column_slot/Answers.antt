-- `column_slot` meets its contract: a slot is a small number.
use Rattle.std.proofs.Common.{arith}
use Rattle.keyword.specs.Names.{single, once_roots, other_roots}
use Rattle.keyword.proofs.Slots.{slots_length}
use Rattle.bintable.proofs.column_slot.Goals as goal

pub overflow_add-result : goal.overflow_add-result
unfolding single once_roots other_roots
overflow_add-result c = omega (arith, c.first_slot.ensures.inside, slots_length, c.requires)
