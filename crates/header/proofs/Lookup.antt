-- What a slot of an index says, and what an accepted header is, for callers.
-- Assumes nothing.
use Rattle.header.specs.declared.Entry.{Entry}
use mathlib.Core.Path.{◌≡◌, ap}
use mathlib.Core.Bool.{true, false}
use mathlib.Core.List.{List, []}
use Prim.Native.Nat.{ℕ, ◌<◌}
use lib.ListN.{length, get_or}
use Rattle.ascii.proofs.Cases.{either}
use Rattle.keyword.specs.Names.{slot_names}
use Rattle.header.specs.Records.{records, has_end, names}
use Rattle.refusal.specs.Refusal.{accepted}
use Rattle.header.specs.Checks.{bad_length, check1, check2, checked, names_read}
use Rattle.header.specs.Checks.{record_of, second_of, records_of, no_entry, index_by, first_at, second_at}
use Rattle.keyword.proofs.Position.{map_at}

-- an index gives for a slot the records of the slot's name, the first and the second
module _ (h : List ℕ) (s : ℕ) (p : s < length slot_names) where
  pub slot_place : get_or (index_by h) s no_entry ≡ records_of h (get_or slot_names s [])
  unfolding index_by
  slot_place = map_at (records_of h) slot_names s no_entry p

  pub slot_first : first_at (index_by h) s ≡ record_of h (get_or slot_names s [])
  slot_first = ap (λ (e : Entry). e.first) slot_place

  pub slot_second : second_at (index_by h) s ≡ second_of h (get_or slot_names s [])
  slot_second = ap (λ (e : Entry). e.second) slot_place

module _ (h : List ℕ) (e : checked h ≡ accepted) where
  pub accepted_length : bad_length h ≡ false
  unfolding checked check1
  accepted_length =
      either (bad_length h) (λ t. let w = rw t at e in cc) (λ t. t)

  pub accepted_end : has_end (records h) ≡ true
  unfolding checked check1 check2
  accepted_end =
      either (has_end (records h)) (λ t. t)
      (λ t. let w = rw (accepted_length, t) at e in cc)

  pub accepted_names : names_read h ≡ names h
  unfolding names_read
  accepted_names = rw (accepted_length, accepted_end)
