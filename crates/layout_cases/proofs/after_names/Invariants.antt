-- What is left is no longer than the names.
use Rattle.std.proofs.Common.{length, ◌≤◌}
use Rattle.layout_cases.proofs.after_names.Given as goal

abbrev pub invariant-loop : goal.invariant-loop
invariant-loop l = length l.rest ≤ length l.names
