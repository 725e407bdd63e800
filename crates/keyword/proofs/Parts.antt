-- Where a name stands among the single names and the names of some roots: its first five bytes tell which of them
-- can have it.
-- Assumes nothing.
use Rattle.std.specs.Prelude.{Option, Some, None}
use mathlib.Core.Path.{◌≡◌, refl, sym, ap, ◌∙◌}
use mathlib.Core.Bool.{true, false, cond}
use mathlib.Core.List.{List, [], ◌∷◌, ◌++◌, map, flat_map}
use Prim.Native.Nat.{ℕ, zero, suc, ◌+◌, ◌*◌, ◌<◌, ◌≤◌}
use native.Mathlib.Nat.{zero-mul, suc-mul, le_of_suc-le-suc}
use native.Mathlib.Omega.{arith}
use lib.ListN.{length, take, drop, get_or, replicate, length-map, take-append-drop}
use lib.Seq.{take_all, take_at}
use lib.Dec.{ltb}
use borrow.Author.Tests.{lt-ltb}
use Rattle.ascii.specs.Text.{bytes, same}
use Rattle.ascii.proofs.Cases.{either, by_test}
use Rattle.ascii.proofs.Same.{same_true, same_not}
use Rattle.keyword.specs.Names.{later, further, range, numeral, index_limit, column_slots, indexed, single, once_roots, other_roots, roots, names_up_to, slot_names, once_names, position}
use Rattle.keyword.proofs.Position.{or_else, further_zero, below, position_append, position_front, position_at, position_root, position_no, length_range, map_at}
use Rattle.keyword.proofs.Numerals.{index_front, index_below}

-- each root has five bytes
abbrev Fives : List (List ℕ) → Type 0
Fives rs = map length rs ≡ replicate (length rs) 5

-- what is computed of a list of roots: each has five bytes and its own place in the list, and no single name has one
-- in front
pub record Rooted (rs : List (List ℕ)) : Type 0 where
  pub fives : Fives rs
  pub own : map (λ (x : List ℕ). position x rs) rs ≡ map Some (range 0 (length rs))
  pub apart : map (λ (x : List ℕ). position (take 5 x) rs) single ≡ map (λ (x : List ℕ). None) single

pub all_rooted : Rooted roots
unfolding once_roots other_roots single position range bytes same
all_rooted = record { fives = refl; own = refl; apart = refl }

pub once_rooted : Rooted once_roots
unfolding once_roots single position range bytes same
once_rooted = record { fives = refl; own = refl; apart = refl }

pub length_indexed : (count : ℕ) (root : List ℕ) → length (indexed count root) ≡ count
unfolding indexed
length_indexed count root = rw (length-map, length_range)

pub or_nothing : (f : Option ℕ) → or_else f None ≡ f
or_nothing (Some k) = refl
or_nothing None = refl

further_further : (a b : ℕ) (f : Option ℕ) → further a (further b f) ≡ further (a + b) f
further_further a b (Some k) = ap Some (omega arith)
further_further a b None = refl

-- the place of name d of root r, where each root has `count` names
abbrev times : ℕ → Option ℕ → Option ℕ → Option ℕ
times count (Some r) d = further (r * count) d
times count None d = None

times_nothing : (count : ℕ) (f : Option ℕ) → times count f None ≡ None
times_nothing count (Some r) = refl
times_nothing count None = refl

times_later : (count : ℕ) (f d : Option ℕ) → further count (times count f d) ≡ times count (later f) d
times_later count (Some r) d =
    rw suc-mul (further_further count (r * count) d ∙ ap (λ (b : ℕ). further b d) (omega arith))
times_later count None d = refl

-- a name with a root in front is no single name
pub none_single : (n : List ℕ) (rs : List (List ℕ)) → Rooted rs → (r : ℕ) → position (take 5 n) rs ≡ Some r
    → position n single ≡ None
none_single n rs w r e = by (position n single) refl
  where
    by : (f : Option ℕ) → position n single ≡ f → f ≡ None
    by None q = refl
    by (Some s) q =
        let p = position_at n single s q in
        let g : List ℕ → Option ℕ = λ x. position (take 5 x) rs in
        let u : g (get_or single s []) ≡ None =
        sym (map_at g single s None p.0) ∙ ap (λ (l : List (Option ℕ)). get_or l s None) w.apart
        ∙ map_at (λ (x : List ℕ). None) single s None p.0 in
        let v = rw p.1 at u in
        cc

-- of the first root of a list and the others
module _ (root : List ℕ) (rs : List (List ℕ)) where
  first_five : Fives (root ∷ rs) → length root ≡ 5
  first_five e = ap (λ (l : List ℕ). get_or l 0 0) e

  other_fives : Fives (root ∷ rs) → Fives rs
  other_fives e = ap (drop 1) e

pub root_length : (rs : List (List ℕ)) (r : ℕ) → Fives rs → r < length rs → length (get_or rs r []) ≡ 5
root_length [] r h p = absurd (omega arith)
root_length (root ∷ rs) zero h p = first_five root rs h
root_length (root ∷ rs) (suc r) h p = root_length rs r (other_fives root rs h) (le_of_suc-le-suc p)

module _ (n : List ℕ) (count : ℕ) where
  -- the bytes after the root as a numeral
  abbrev digits : Option ℕ
  digits = position (drop 5 n) (map numeral (range 1 count))

  -- the names of one root, by whether it is in front
  module _ (root : List ℕ) (h : length root ≡ 5) where
    not_root : same (take 5 n) root ≡ false → position n (indexed count root) ≡ None
    unfolding indexed
    not_root e =
        position_no n (λ (k : ℕ). root ++ numeral k) 1 count
        (λ k p q w. same_not (take 5 n) root e (ap (take 5) w ∙ take_at root (numeral k) 5 h))

    is_root : same (take 5 n) root ≡ true → position n (indexed count root) ≡ digits
    unfolding indexed
    is_root e =
        let m = sym (take-append-drop 5 n) ∙ ap (λ (l : List ℕ). l ++ drop 5 n) (same_true (take 5 n) root e) in
        ap (λ (l : List ℕ). position l (indexed count root)) m ∙ position_root root (drop 5 n) numeral (range 1 count)

  -- the first of several roots is in front
  first : (f d : Option ℕ) → or_else d (further count (times count f d)) ≡ times count (Some 0) d
  first f (Some k) = rw zero-mul (sym (further_zero (Some k)))
  first f None = ap (further count) (times_nothing count f)

  -- the names of all roots, by the place of the first five bytes among the roots
  in_roots : (rs : List (List ℕ)) → Fives rs
      → position n (flat_map (indexed count) rs) ≡ times count (position (take 5 n) rs) digits
  unfolding flat_map position
  in_roots [] h = refl
  in_roots (root ∷ rs) h =
      let l = first_five root rs h in let f = position (take 5 n) rs in
      position_append n (indexed count root) (flat_map (indexed count) rs)
      ∙ rw (length_indexed count root, in_roots rs (other_fives root rs h))
      (either (same (take 5 n) root) (λ t. rw (t, is_root root l t) (first f digits))
      (λ t. rw (t, not_root root l t) (times_later count f digits)))

  -- all the names
  module _ (most : count ≤ index_limit) (rs : List (List ℕ)) (w : Rooted rs) where
    names_parts : position n (names_up_to count rs)
        ≡ or_else (position n single) (further (length single) (times count (position (take 5 n) rs) digits))
    names_parts = position_append n single (flat_map (indexed count) rs) ∙ rw (in_roots rs w.fives)

    pub names_single : position (take 5 n) rs ≡ None → position n (names_up_to count rs) ≡ position n single
    names_single e = names_parts ∙ rw e (or_nothing (position n single))

    pub names_root : (r : ℕ) → position (take 5 n) rs ≡ Some r
        → position n (names_up_to count rs)
        ≡ further (length single + r * count) (below count (position (drop 5 n) (map numeral (range 1 index_limit))))
    names_root r e =
        names_parts ∙ rw (none_single n rs w r e, e) (further_further (length single) (r * count) digits)
        ∙ ap (further (length single + r * count)) (index_front (drop 5 n) count most)

-- the places that the code gives, by the first five bytes of a name
module _ (n : List ℕ) where
  -- the bytes after the root
  abbrev index : Option ℕ
  index = position (drop 5 n) (map numeral (range 1 index_limit))

  once_root : position (take 5 n) once_roots ≡ below (length once_roots) (position (take 5 n) roots)
  once_root = position_front (take 5 n) once_roots other_roots

  pub short_name : length n < 5 → position (take 5 n) roots ≡ None
  short_name h = rw (take_all 5 n (omega arith)) (by (position n roots) refl)
    where
      by : (f : Option ℕ) → position n roots ≡ f → f ≡ None
      by None q = refl
      by (Some s) q =
          let p = position_at n roots s q in
          let l = rw p.1 at (root_length roots s all_rooted.fives p.0) in
          absurd (omega arith)

  module _ (e : position (take 5 n) roots ≡ None) where
    pub single_slot : position n slot_names ≡ position n single
    unfolding slot_names
    single_slot = names_single n column_slots (omega arith) roots all_rooted e

    pub single_once : position n once_names ≡ position n single
    unfolding once_names
    single_once =
        names_single n index_limit (omega arith) once_roots once_rooted (once_root ∙ ap (below (length once_roots)) e)

  module _ (r : ℕ) (e : position (take 5 n) roots ≡ Some r) where
    pub rooted_slot : position n slot_names ≡ further (length single + r * column_slots) (below column_slots index)
    unfolding slot_names
    rooted_slot = names_root n column_slots (omega arith) roots all_rooted r e

    limited : (f : Option ℕ) → index ≡ f → below index_limit f ≡ f
    limited (Some k) q = rw (lt-ltb k index_limit (index_below (drop 5 n) k q))
    limited None q = refl

    pub rooted_once : position n once_names
        ≡ cond (ltb r (length once_roots)) (further (length single + r * index_limit) index) None
    unfolding once_names
    rooted_once =
        let f = once_root ∙ ap (below (length once_roots)) e in
        by_test (λ (x : Option ℕ). position n once_names ≡ x) (ltb r (length once_roots))
        (λ t. names_root n index_limit (omega arith) once_roots once_rooted r (rw t at f)
        ∙ ap (further (length single + r * index_limit)) (limited index refl))
        (λ t. names_single n index_limit (omega arith) once_roots once_rooted (rw t at f)
        ∙ none_single n roots all_rooted r e)

    pub none_once : index ≡ None → position n once_names ≡ None
    none_once d = rooted_once ∙ rw d (either (ltb r (length once_roots)) (λ t. rw t) (λ t. rw t))
