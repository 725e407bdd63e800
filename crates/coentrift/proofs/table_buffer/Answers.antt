-- `table_buffer` has the length that its type says.
use Rattle.std.proofs.Common.{ℕ}
use Rattle.std.proofs.lemmas.List.{length-replicate}
use Rattle.coentrift.proofs.table_buffer.Goals as goal

pub returns : goal.returns
returns c = length-replicate {0} {A = ℕ} 2097153 0
