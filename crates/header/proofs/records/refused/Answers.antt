-- `refused` meets its contract: there are as many entries as names with a slot.
use Rattle.std.proofs.Common.{ℕ, replicate, refl, sym, ap}
use Rattle.keyword.specs.Names.{single, once_roots, other_roots}
use Rattle.keyword.proofs.Slots.{slots_length}
use Rattle.header.specs.Checks.{no_entry}
use Rattle.header.proofs.records.refused.Goals as goal

pub returns : goal.returns
unfolding single once_roots other_roots
returns c = (refl, ap (λ (n : ℕ). replicate n no_entry) (sym slots_length))
