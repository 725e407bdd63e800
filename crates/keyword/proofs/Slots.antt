-- Laws of the lists of names, for callers: how many there are, that each name has its own place, and which name has
-- which slot.
-- Assumes nothing.
use Rattle.std.specs.Prelude.{Option, Some, None}
use mathlib.Core.Path.{◌≡◌, refl, sym, ap, ◌∙◌}
use mathlib.Core.List.{List, [], ◌∷◌, ◌++◌, map, flat_map, append_assoc}
use Rattle.std.proofs.lemmas.Grind.{flat_map-append}
use Prim.Native.Nat.{ℕ, zero, suc, ◌+◌, ◌-◌, ◌*◌, ◌/◌, ◌%◌, ◌<◌, ◌≤◌}
use native.Mathlib.Nat.{zero-mul, suc-mul, le_of_suc-le-suc, mul-le-mul_right, mod-lt, div-add-mod', div-lt_iff_lt-mul}
use native.Mathlib.Omega.{arith}
use lib.ListN.{length, take, drop, get_or, length-append, get_or-append}
use lib.Seq.{get_or-append-add, take_at, drop_at}
use lib.Dec.{ltb}
use borrow.Author.Tests.{ltb-true, ltb-false, lt-ltb}
use Rattle.ascii.specs.Text.{bytes, same}
use Rattle.ascii.proofs.Cases.{either}
use Rattle.keyword.specs.Names.{range, numeral, index_limit, column_slots, indexed, single, once_roots, other_roots, roots, names_up_to, used_names, slot_names, once_names, position}
use Rattle.keyword.proofs.Position.{below, position_append, position_front, range_at, map_at}
use Rattle.keyword.proofs.Numerals.{index_at, index_below}
use Rattle.keyword.proofs.Parts.{Rooted, all_rooted, once_rooted, length_indexed, root_length, names_root, names_single, single_slot, rooted_slot}

-- each single name is found at its own place
places : map (λ (x : List ℕ). position x single) single ≡ map Some (range 0 (length single))
unfolding position single bytes same range
places = refl

-- the place of an element of a list in which each has its own
own_at : (us : List (List ℕ)) → map (λ (x : List ℕ). position x us) us ≡ map Some (range 0 (length us)) → (s : ℕ)
    → s < length us
    → position (get_or us s []) us ≡ Some s
own_at us h s p =
    sym (map_at (λ (x : List ℕ). position x us) us s None p) ∙ ap (λ (l : List (Option ℕ)). get_or l s None) h
    ∙ range_at Some 0 (length us) s None p ∙ ap Some (omega arith)

module _ (count : ℕ) where
  length_all : (rs : List (List ℕ)) → length (flat_map (indexed count) rs) ≡ length rs * count
  unfolding flat_map
  length_all [] = sym (zero-mul count)
  length_all (root ∷ rs) = rw (length-append, length_indexed, length_all rs, suc-mul) (omega arith)

  -- the name with index k of root r
  indexed_at : (rs : List (List ℕ)) (r k : ℕ) → r < length rs → k < count
      → get_or (flat_map (indexed count) rs) (r * count + k) [] ≡ get_or rs r [] ++ numeral (1 + k)
  unfolding flat_map indexed
  indexed_at [] r k p q = absurd (omega arith)
  indexed_at (root ∷ rs) zero k p q =
      rw zero-mul
      (ap (λ (i : ℕ). get_or (indexed count root ++ flat_map (indexed count) rs) i []) (omega arith)
      ∙ get_or-append (indexed count root) (flat_map (indexed count) rs) [] k
      (omega (arith, length_indexed count root))
      ∙ range_at (λ (n : ℕ). root ++ numeral n) 1 count k [] q)
  indexed_at (root ∷ rs) (suc r) k p q =
      let e : suc r * count + k
      ≡ length (indexed count root) + (r * count + k) = rw (length_indexed count root, suc-mul) (omega arith) in
      ap (λ (i : ℕ). get_or (indexed count root ++ flat_map (indexed count) rs) i []) e
      ∙ get_or-append-add (indexed count root) (flat_map (indexed count) rs) (r * count + k) []
      ∙ indexed_at rs r k (le_of_suc-le-suc p) q

  module _ (rs : List (List ℕ)) where
    pub names_length : length (names_up_to count rs) ≡ length single + length rs * count
    names_length = rw (length-append, length_all rs)

    pub names_at : (r k : ℕ) → r < length rs → k < count
        → get_or (names_up_to count rs) (length single + (r * count + k)) [] ≡ get_or rs r [] ++ numeral (1 + k)
    names_at r k p q = get_or-append-add single (flat_map (indexed count) rs) (r * count + k) [] ∙ indexed_at rs r k p q

    -- each name is found at its own place
    module _ (some : 0 < count) (most : count ≤ index_limit) (w : Rooted rs) where
      own_single : (s : ℕ) → s < length single → position (get_or (names_up_to count rs) s []) (names_up_to count rs) ≡ Some s
      own_single s h =
          ap (λ (l : List ℕ). position l (names_up_to count rs))
          (get_or-append single (flat_map (indexed count) rs) [] s h)
          ∙ position_append (get_or single s []) single (flat_map (indexed count) rs)
          ∙ rw (own_at single places s h)

      own_indexed : (r k : ℕ) → r < length rs → k < count
          → position (get_or rs r [] ++ numeral (1 + k)) (names_up_to count rs) ≡ Some (length single + (r * count + k))
      own_indexed r k p q =
          let root = get_or rs r [] in let l = root_length rs r w.fives p in
          let n = root ++ numeral (1 + k) in
          let a : position (take 5 n) rs
          ≡ Some r = ap (λ (x : List ℕ). position x rs) (take_at root (numeral (1 + k)) 5 l)
          ∙ own_at rs w.own r p in
          let d : position (drop 5 n) (map numeral (range 1 index_limit)) ≡ Some k =
          ap (λ (x : List ℕ). position x (map numeral (range 1 index_limit))) (drop_at root (numeral (1 + k)) 5 l)
          ∙ index_at (1 + k) (omega arith) (omega arith) ∙ ap Some (omega arith) in
          names_root n count most rs w r a ∙ rw (d, lt-ltb k count q) (ap Some (omega arith))

      pub names_own : (s : ℕ) → s < length (names_up_to count rs)
          → position (get_or (names_up_to count rs) s []) (names_up_to count rs) ≡ Some s
      names_own s h =
          either (ltb s (length single)) (λ t. own_single s (ltb-true s (length single) t))
          (λ t. past (ltb-false s (length single) t))
        where
          past : length single ≤ s → position (get_or (names_up_to count rs) s []) (names_up_to count rs) ≡ Some s
          past p =
              let i = s - length single in
              let j : i < length rs * count = omega (arith, names_length) in
              let r : i / count < length rs = (div-lt_iff_lt-mul some).1 j in
              let e : length single + (i / count * count + i % count) ≡ s = rw div-add-mod' (omega arith) in
              ap (λ (l : List ℕ). position l (names_up_to count rs))
              (ap (λ (t : ℕ). get_or (names_up_to count rs) t []) (sym e)
              ∙ names_at (i / count) (i % count) r (mod-lt i some))
              ∙ own_indexed (i / count) (i % count) r (mod-lt i some) ∙ ap Some e

-- of the names with a slot and of those that must not stand twice
pub slots_length : length slot_names ≡ length single + length roots * column_slots
unfolding slot_names
slots_length = names_length column_slots roots

pub once_length : length once_names ≡ length single + length once_roots * index_limit
unfolding once_names
once_length = names_length index_limit once_roots

pub slots_own : (s : ℕ) → s < length slot_names → position (get_or slot_names s []) slot_names ≡ Some s
unfolding slot_names
slots_own s h = names_own column_slots roots (omega arith) (omega arith) all_rooted s h

pub once_own : (s : ℕ) → s < length once_names → position (get_or once_names s []) once_names ≡ Some s
unfolding once_names
once_own s h = names_own index_limit once_roots (omega arith) (omega arith) once_rooted s h

-- which name has which slot; the slots of a root begin here
abbrev pub first_slot : ℕ → ℕ
first_slot r = 9 + r * column_slots

pub single_name : (s : ℕ) → s < length single → get_or slot_names s [] ≡ get_or single s []
unfolding slot_names
single_name s h = get_or-append single (flat_map (indexed column_slots) roots) [] s h

pub rooted_name : (r k : ℕ) → r < length roots → k < column_slots
    → get_or slot_names (first_slot r + k) [] ≡ get_or roots r [] ++ numeral (k + 1)
unfolding slot_names single
rooted_name r k p q =
    let e : first_slot r + k ≡ length single + (r * column_slots + k) = omega arith in
    let f : k + 1 ≡ 1 + k = omega arith in
    rw (e, f) (names_at column_slots roots r k p q)

pub rooted_inside : (r k : ℕ) → r < length roots → k < column_slots → first_slot r + k < length slot_names
unfolding single
rooted_inside r k p q = omega (arith, slots_length, mul-le-mul_right column_slots p)

-- ---- the used names

-- each single name is one, and each root with a number from 1 to 999
pub used_single : (s : ℕ) → s < length single → position (get_or single s []) used_names ≡ Some s
unfolding used_names
used_single s h =
    position_append (get_or single s []) single (flat_map (indexed index_limit) roots) ∙ rw (own_at single places s h)

pub used_rooted : (r n : ℕ) → r < length roots → 1 ≤ n → n ≤ index_limit
    → position (get_or roots r [] ++ numeral n) used_names ≡ Some (length single + (r * index_limit + (n - 1)))
unfolding used_names
used_rooted r n p least most =
    let e : 1 + (n - 1) ≡ n = omega arith in
    let own = own_indexed index_limit roots (omega arith) (omega arith) all_rooted r (n - 1) p (omega arith) in rw e at own

-- a name that is none of them may stand twice
pub unused_once : (n : List ℕ) → position n used_names ≡ None → position n once_names ≡ None
unfolding used_names once_names flat_map
unused_once n e =
    position_front n (names_up_to index_limit once_roots) (flat_map (indexed index_limit) other_roots)
    ∙ ap (below (length (names_up_to index_limit once_roots))) (ap (position n) (sym parted) ∙ e)
  where
    parted : names_up_to index_limit roots ≡ names_up_to index_limit once_roots ++ flat_map (indexed index_limit) other_roots
    parted =
        ap (λ (l : List (List ℕ)). single ++ l) (flat_map-append (indexed index_limit) once_roots other_roots)
        ∙ sym (append_assoc single (flat_map (indexed index_limit) once_roots) (flat_map (indexed index_limit) other_roots))

-- nor has it a slot
module _ (n : List ℕ) (e : position n used_names ≡ None) where
  no_slot : position n slot_names ≡ None
  unfolding used_names
  no_slot = by (position (take 5 n) roots) refl
    where
      index : Option ℕ
      index = position (drop 5 n) (map numeral (range 1 index_limit))

      none : (r : ℕ) → position (take 5 n) roots ≡ Some r → (f : Option ℕ) → index ≡ f → position n slot_names ≡ None
      none r q None d = rooted_slot n r q ∙ rw d
      none r q (Some k) d =
          let u = sym (names_root n index_limit (omega arith) roots all_rooted r q) ∙ e in
          let w = rw (d, lt-ltb k index_limit (index_below (drop 5 n) k d)) at u in
          cc

      by : (f : Option ℕ) → position (take 5 n) roots ≡ f → position n slot_names ≡ None
      by None q = single_slot n q ∙ sym (names_single n index_limit (omega arith) roots all_rooted q) ∙ e
      by (Some r) q = none r q index refl

  pub unused : (position n slot_names ≡ None) × (position n once_names ≡ None)
  unused = (no_slot, unused_once n e)
