-- The bytes so far are those of the area.
use Rattle.std.proofs.Common.{◌≡◌, ◌+◌, length}
use Rattle.cell.proofs.Numbers.{AreBytesAt}
use Rattle.cell.proofs.words.eight_past.Given as goal

abbrev pub invariant-loop-i : goal.invariant-loop-i
invariant-loop-i l = (length l.bytes ≡ 8) × AreBytesAt l.bytes l.i l.area (l.at + l.from)
