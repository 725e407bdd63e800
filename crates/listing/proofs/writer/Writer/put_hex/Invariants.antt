-- The digits of the number that is left, and those set down after them, are the digits of `n`.
use Rattle.std.proofs.Common.{◌≡◌, ◌≤◌, ◌++◌, length}
use lib.Seq.{slice}
use Rattle.listing.specs.Text.{hex_text}
use Rattle.listing.proofs.writer.Writer.put_hex.Given as goal

abbrev pub invariant-loop-i : goal.invariant-loop-i
invariant-loop-i l = record {
  long : length l.digits ≡ 16;
  within : l.i ≤ l.width;
  text : hex_text l.i l.rest ++ slice l.i l.width l.digits ≡ hex_text l.width l.n;
}
