-- The records that the index of a header gives for the names that are numbered by column.
-- Assumes nothing.
use mathlib.Core.Path.{◌≡◌, ◌∙◌, ap}
use mathlib.Core.List.{[], ◌++◌}
use Prim.Native.Nat.{ℕ, ◌+◌, ◌<◌}
use native.Mathlib.Omega.{arith}
use lib.ListN.{length, get_or}
use Rattle.keyword.specs.Names.{numeral, column_slots, once_roots, other_roots, roots}
use Rattle.keyword.proofs.Slots.{first_slot, rooted_name, rooted_inside}
use Rattle.header.specs.Checks.{record_of, first_at}
use Rattle.header.proofs.Lookup.{slot_first}
use Rattle.bintable.specs.declared.Indexed.{Indexed}
use Rattle.bintable.specs.Checks.{tform_of, ttype_of}

module _ (i : Indexed) where
  -- root r with column k, from 0
  at_root : (r k : ℕ) → r < length roots → k < column_slots → first_at i.index.now (first_slot r + k) ≡ record_of i.header.now (get_or roots r [] ++ numeral (k + 1))
  at_root r k p l = rw i.of_header (slot_first i.header.now (first_slot r + k) (rooted_inside r k p l)) ∙ ap (record_of i.header.now) (rooted_name r k p l)

  pub at_tform : (k : ℕ) → k < column_slots → first_at i.index.now (first_slot 0 + k) ≡ tform_of i.header.now (k + 1)
  unfolding once_roots other_roots
  at_tform k l = at_root 0 k (omega arith) l

  pub at_ttype : (k : ℕ) → k < column_slots → first_at i.index.now (first_slot 1 + k) ≡ ttype_of i.header.now (k + 1)
  unfolding once_roots other_roots
  at_ttype k l = at_root 1 k (omega arith) l
