-- What is read so far fits the buffer.
use Rattle.std.proofs.Common.{length, ◌≤◌}
use Rattle.console.proofs.fill.Given as goal

abbrev pub invariant-loop : goal.invariant-loop
invariant-loop l = l.n ≤ length l.buffer
