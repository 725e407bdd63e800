-- The loop of `read_records`: none of the k records passed is END, and the arrays are the index of their names.
use Rattle.header.specs.Records.{records}
use Rattle.header.proofs.Ends.{Open}
use Rattle.header.proofs.Indexed.{Indexed}
use Rattle.header.proofs.Pass.{names_to}
use Rattle.header.proofs.records.read_records.Given as goal

abbrev pub invariant-loop-k : goal.invariant-loop-k
invariant-loop-k l = Open (records l.header) l.k × Indexed (names_to l.header l.k) l.seen l.index l.repeated
