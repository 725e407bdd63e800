-- The loop of `read_on`: the number so far, with the digits that are left, is the number of the whole.
use Rattle.std.proofs.Common.{◌≡◌, drop}
use Rattle.ascii.proofs.Reading.{number_from}
use Rattle.ascii.proofs.digits.read_on.Given as goal

abbrev pub invariant-loop-byte : goal.invariant-loop-byte
invariant-loop-byte l = number_from l.number (drop l.byte-index l.text) ≡ number_from l.n l.text
