-- `parse` lends the arguments so far.
use Rattle.std.proofs.Common.{◌≡◌, map, take}
use Rattle.std.specs.Vec.{vec_items}
use Rattle.coentrift.proofs.parse.Given as goal

abbrev pub invariant-loop-arg : goal.invariant-loop-arg
invariant-loop-arg l = map (λ a. a.now) l.lent.items ≡ map (λ a. vec_items a) (take l.arg-index l.args)
