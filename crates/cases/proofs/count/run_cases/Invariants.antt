-- The cases of the rest, counted on from the tally, are those of the file. The measure is the number of bytes left.
use Rattle.std.proofs.Common.{◌≡◌, ◌+◌, ◌*◌, ◌≤◌, length}
use Rattle.cases.specs.Cases.{none, tallied}
use Rattle.cases.proofs.count.run_cases.Given as goal

abbrev pub invariant-loop-case : goal.invariant-loop-case
invariant-loop-case l = record {
  few : 12 * l.tally.cases + length l.rest ≤ length l.file;
  fewer : l.tally.differ ≤ l.tally.cases;
  counted : tallied (length l.rest) l.tally l.rest ≡ tallied (length l.file) none l.file;
}

abbrev pub decreases-loop-case : goal.decreases-loop-case
decreases-loop-case l = length l.rest
