-- `same_name`: both names are alike just where what is left of both is.
use Rattle.std.proofs.Common.{◌≡◌, drop}
use lib.Pointwise.{pointwise}
use Rattle.layout.specs.Names.{undoubled, alike, same_name}
use Rattle.layout.proofs.ttype.same_name.Given as goal

abbrev pub invariant-loop-byte : goal.invariant-loop-byte
invariant-loop-byte l =
    same_name l.part l.sought ≡ pointwise alike (undoubled l.rest) (drop l.byte-index l.sought)
