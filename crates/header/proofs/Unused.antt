-- What a header and one that it may become have in common: the same used names in the same records, the same checks 1
-- to 3, and the record of a used name.
-- Assumes nothing.
use Rattle.std.specs.Prelude.{Option, Some, None}
use mathlib.Core.Path.{◌≡◌, refl, sym, ap, ◌∙◌}
use mathlib.Core.Bool.{Bool, true, false, ◌&&◌, cond}
use mathlib.Core.List.{List, [], ◌∷◌, ◌++◌, map}
use Prim.Native.Nat.{ℕ, suc, ◌/◌}
use lib.Dec.{ltb}
use lib.ListN.{length, get_or, length-append}
use borrow.Author.Tests.{ltb-true}
use Rattle.ascii.specs.Text.{same}
use Rattle.ascii.proofs.Cases.{either}
use Rattle.card.specs.Record.{card_at, name_of}
use Rattle.keyword.specs.Names.{used_names, once_names, later, position}
use Rattle.keyword.proofs.Slots.{unused_once}
use Rattle.header.specs.Records.{records, has_end, before_end, names, second, found, repeated_after}
use Rattle.header.specs.Checks.{bad_length, check1, check2, check3, checked, names_read, record_of, second_of}
use Rattle.header.specs.Unused.{may_become, all_may_become, header_may_become}
use Rattle.header.proofs.Ends.{record_at}
use Rattle.header.proofs.Snoc.{position_snoc}
use Rattle.header.proofs.Becomes.{Used, not_found, no_once, by_record, holds_same, stays, by_records}
use Rattle.header.proofs.Becomes.{length_same, all_may}

-- ---- the records up to END

abbrev names_in : List (List ℕ) → List (List ℕ)
names_in rs = map name_of (before_end rs)

ends_same : (rs ss : List (List ℕ)) → all_may_become rs ss ≡ true → has_end rs ≡ has_end ss
unfolding has_end
ends_same =
    by_records (λ rs ss. has_end rs ≡ has_end ss) refl (λ r s rs ss f t u. rw (t, u))
    (λ r s rs ss f t u rest. rw (t, u) rest)

-- a place that is later than another
later_place : (f : Option ℕ) (k : ℕ) → later f ≡ Some k → (j : ℕ) × (k ≡ suc j) × (f ≡ Some j)
later_place (Some j) k e = let q : suc j ≡ k = cc in (j, sym q, refl)
later_place None k e = cc

module _ (u : List ℕ) (used : Used u) where
  -- the first and the second place of a used name
  abbrev SamePlaces : List (List ℕ) → List (List ℕ) → Type 0
  SamePlaces rs ss =
      (position u (names_in rs) ≡ position u (names_in ss)) × (second u (names_in rs) ≡ second u (names_in ss))

  places_same : (rs ss : List (List ℕ)) → all_may_become rs ss ≡ true → SamePlaces rs ss
  unfolding before_end position second
  places_same =
      by_records SamePlaces (refl, refl) (λ r s rs ss f t w. rw (t, w) (refl, refl))
      (λ r s rs ss f t w rest. rw (t, w, holds_same r s f u used, rest.0, rest.1) (refl, refl))

  -- and its record
  record_stays : (rs ss : List (List ℕ)) → all_may_become rs ss ≡ true
      → (k : ℕ) → position u (names_in rs) ≡ Some k → get_or rs k [] ≡ get_or ss k []
  unfolding before_end position
  record_stays =
      by_records (λ rs ss. (k : ℕ) → position u (names_in rs) ≡ Some k → get_or rs k [] ≡ get_or ss k [])
      (λ k p. refl) (λ r s rs ss f t w k p. let q = rw t at p in cc)
      (λ r s rs ss f t w rest k p. either (same u (name_of r))
      (λ v. let q : Some 0 ≡ Some k = rw (t, v) at p in let z : 0 ≡ k = cc in rw (← z) (stays r s f u used v))
      (λ v. let q = later_place (position u (names_in rs)) k (rw (t, v) at p) in rw q.1 (rest q.0 q.2)))

-- ---- the first repeated one

-- what check 3 has seen: the same names that must not stand twice
abbrev SameSeen : List (List ℕ) → List (List ℕ) → Type 0
SameSeen xs ys = (u : List ℕ) → found (position u once_names) ≡ true → position u xs ≡ position u ys

once_used : (u : List ℕ) → found (position u once_names) ≡ true → Used u
once_used u e =
    either (found (position u used_names)) (λ t. t)
    (λ t. let q = rw (unused_once u (not_found (position u used_names) t)) at e in cc)

module _ (r s : List ℕ) (e : may_become r s ≡ true) (xs ys : List (List ℕ))
    (long : length xs ≡ length ys) (seen : SameSeen xs ys) where
  abbrev again : List ℕ → List (List ℕ) → Bool
  again n ns = found (position n once_names) && found (position n ns)

  again_same : again (name_of r) xs ≡ again (name_of s) ys
  again_same =
      by_record r s e
      (λ q. rw (← q) (either (found (position (name_of r) once_names)) (λ t. rw (t, seen (name_of r) t)) (λ t. rw t)))
      (λ t u. rw (no_once r t, no_once s u))

  seen_more : SameSeen (xs ++ (name_of r ∷ [])) (ys ++ (name_of s ∷ []))
  seen_more u once =
      position_snoc u (name_of r) xs ∙ rw (seen u once, holds_same r s e u (once_used u once), long)
      (sym (position_snoc u (name_of s) ys))

repeated_same : (rs ss : List (List ℕ)) → all_may_become rs ss ≡ true
    → (xs ys : List (List ℕ)) → length xs ≡ length ys → SameSeen xs ys
    → repeated_after xs (names_in rs) ≡ repeated_after ys (names_in ss)
unfolding before_end repeated_after
repeated_same =
    by_records
    (λ rs ss. (xs ys : List (List ℕ)) → length xs ≡ length ys → SameSeen xs ys
    → repeated_after xs (names_in rs) ≡ repeated_after ys (names_in ss))
    (λ xs ys long seen. refl) (λ r s rs ss f t w xs ys long seen. rw (t, w))
    (λ r s rs ss f t w rest xs ys long seen. rw (t, w, again_same r s f xs ys long seen, long)
    (ap (cond (again r s f xs ys long seen (name_of s) ys) (Some (length ys)))
    (rest (xs ++ (name_of r ∷ [])) (ys ++ (name_of s ∷ []))
    (rw (length-append, length-append, long)) (seen_more r s f xs ys long seen))))

-- ---- the header

module _ (h g : List ℕ) (e : header_may_become h g ≡ true) where
  bad_same : bad_length h ≡ bad_length g
  unfolding bad_length
  bad_same = rw (length_same h g e)

  header_ends : has_end (records h) ≡ has_end (records g)
  header_ends = ends_same (records h) (records g) (all_may h g e)

  -- checks 1, 2 and 3, with their places
  pub checked_same : checked h ≡ checked g
  unfolding checked check1 check2 check3 names
  checked_same =
      rw (bad_same, header_ends, repeated_same (records h) (records g) (all_may h g e) [] [] refl (λ u once. refl))

  -- record k, where it is the same among all records
  card_missing : (k : ℕ) → ltb k (length h / 80) ≡ false → card_at h k ≡ card_at g k
  unfolding card_at
  card_missing k t = let u = rw (length_same h g e) at t in rw (t, u)

  card_stays : (k : ℕ) → get_or (records h) k [] ≡ get_or (records g) k [] → card_at h k ≡ card_at g k
  card_stays k q =
      either (ltb k (length h / 80))
      (λ t. let u = rw (length_same h g e) at t in
      sym (record_at h k (ltb-true _ _ t)) ∙ q ∙ record_at g k (ltb-true _ _ u))
      (card_missing k)

  module _ (u : List ℕ) (used : Used u) where
    -- both have a used name in the same records, the first and the second
    pub record_same : record_of h u ≡ record_of g u
    unfolding names_read names
    record_same =
        rw (bad_same, header_ends)
        (either (bad_length g) (λ t. rw t)
        (λ t. either (has_end (records g))
        (λ v. rw (t, v) (places_same u used (records h) (records g) (all_may h g e)).0)
        (λ v. rw (t, v))))

    pub second_same : second_of h u ≡ second_of g u
    unfolding names_read names
    second_same =
        rw (bad_same, header_ends)
        (either (bad_length g) (λ t. rw t)
        (λ t. either (has_end (records g))
        (λ v. rw (t, v) (places_same u used (records h) (records g) (all_may h g e)).1)
        (λ v. rw (t, v))))

    -- and its record is the same in both
    pub card_same : (k : ℕ) → record_of h u ≡ Some k → card_at h k ≡ card_at g k
    unfolding names_read names position
    card_same k p =
        either (bad_length h) (λ t. let q = rw t at p in cc)
        (λ t. either (has_end (records h))
        (λ v. card_stays k (record_stays u used (records h) (records g) (all_may h g e) k (rw (t, v) at p)))
        (λ v. let q = rw (t, v) at p in cc))
