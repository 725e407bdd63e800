-- The pass over the records: the index after k records, one record more, and the index at END.
-- Assumes nothing.
use Rattle.std.specs.Prelude.{Option, None}
use mathlib.Core.Path.{◌≡◌, ap, ◌∙◌}
use mathlib.Core.Bool.{true, false}
use mathlib.Core.List.{List, [], ◌∷◌, ◌++◌, map, map-append}
use Prim.Native.Nat.{ℕ, ◌+◌, ◌/◌, ◌<◌, ◌≤◌}
use native.Mathlib.Numerals.{add-one}
use native.Mathlib.Omega.{arith}
use lib.ListN.{length, take, length-map}
use lib.Seq.{take-suc, length-take-le}
use Rattle.card.specs.Record.{card_at, is_end, name_of}
use Rattle.keyword.specs.Names.{slot_names, once_names, position}
use Rattle.header.specs.declared.Entry.{Entry}
use Rattle.header.specs.Records.{records, has_end, names}
use Rattle.refusal.specs.Refusal.{refused}
use Rattle.header.specs.Checks.{repetition, bad_length, check1, check2, check3, checked, names_read, no_entry, index_by}
use Rattle.header.specs.Noting.{entry_at, stored, kept, kept_after, noted}
use Rattle.header.proofs.Ends.{record_count, record_at, Open, open_ends, open_before, open_over}
use Rattle.header.proofs.Indexed.{Indexed, indexed_next, index_read}

-- the names of the first k records
abbrev pub names_to : List ℕ → ℕ → List (List ℕ)
names_to h k = map name_of (take k (records h))

module _ (h : List ℕ) (k : ℕ) (p : k < length h / 80) where
  inside : k < length (records h)
  inside = omega (arith, record_count h)

  names_next : names_to h (k + 1) ≡ names_to h k ++ (name_of (card_at h k) ∷ [])
  names_next =
      rw (add-one k, take-suc (records h) k [] inside, record_at h k p)
      (map-append name_of (take k (records h)) (card_at h k ∷ []))

  names_length : length (names_to h k) ≡ k
  names_length = rw length-map (length-take-le k (records h) (omega (arith, inside)))

  module _ (seen : List (Option ℕ)) (index : List Entry) (again : Option ℕ)
      (d : Indexed (names_to h k) seen index again) where
    -- one record more, by what the code finds and stores
    module _ (o s : Option ℕ) (eo : o ≡ position (name_of (card_at h k)) once_names)
        (es : s ≡ position (name_of (card_at h k)) slot_names)
        (earlier : Option ℕ) (ee : earlier ≡ entry_at None seen o) where
      pub pass_next : (seen' : List (Option ℕ)) (index' : List Entry) (again' : Option ℕ)
          → seen' ≡ stored seen o (kept (entry_at None seen o) k)
          → index' ≡ stored index s (noted (entry_at no_entry index s) k)
          → again' ≡ kept_after earlier again k
          → Indexed (names_to h (k + 1)) seen' index' again'
      pass_next seen' index' again' e₁ e₂ e₃ =
          rw (names_next, e₁, e₂, e₃, ee, eo, es)
          (rw names_length at (indexed_next (names_to h k) (name_of (card_at h k)) seen index again d))

    module _ (good : bad_length h ≡ false) (o : Open (records h) k) (t : is_end (card_at h k) ≡ true) where
      ends : has_end (records h) ≡ true
      ends = open_ends (records h) k o inside (ap is_end (record_at h k p) ∙ t)

      all_names : names h ≡ names_to h k
      unfolding names
      all_names = ap (map name_of) (open_before (records h) k o inside (ap is_end (record_at h k p) ∙ t))

      read_names : names_read h ≡ names_to h k
      unfolding names_read
      read_names = rw (good, ends) all_names

      pub end_check : repetition again ≡ checked h
      unfolding checked check1 check2 check3
      end_check = rw (good, ends, all_names, d.repeats)

      pub end_index : index ≡ index_by h
      end_index = d.entries ∙ index_read h (names_to h k) read_names

-- no END
module _ (h : List ℕ) (good : bad_length h ≡ false) (e : has_end (records h) ≡ false) where
  pub none_check : refused 2 0 ≡ checked h
  unfolding checked check1 check2
  none_check = rw (good, e)

  pub none_read : names_read h ≡ []
  unfolding names_read
  none_read = rw (good, e)

pub over : (h : List ℕ) (k : ℕ) → Open (records h) k → length h / 80 ≤ k → has_end (records h) ≡ false
over h k o p = open_over (records h) k o (omega (arith, record_count h))
