-- The index of a list of names, and what one name more stores in it.
-- Assumes nothing.
use Rattle.std.specs.Prelude.{Option, Some, None}
use mathlib.Core.Path.{◌≡◌, refl, sym, ap, ap₂, ◌∙◌}
use mathlib.Core.Bool.{false}
use mathlib.Core.List.{List, [], ◌∷◌, ◌++◌, map}
use Prim.Native.Nat.{ℕ, zero, suc, ◌<◌}
use native.Mathlib.Nat.{le_of_suc-le-suc}
use native.Mathlib.Omega.{arith}
use lib.ListN.{length, get_or, set, replicate, length-map}
use Rattle.ascii.specs.Text.{same}
use Rattle.ascii.proofs.Same.{same_refl, same_false}
use Rattle.keyword.specs.Names.{slot_names, once_names, position}
use Rattle.header.specs.declared.Entry.{Entry}
use Rattle.header.specs.Records.{second, found, repeated, repeated_after}
use Rattle.header.specs.Checks.{names_read, no_entry, index_by}
use Rattle.header.specs.Noting.{entry_at, stored, kept, kept_after, noted}
use Rattle.keyword.proofs.Parts.{or_nothing}
use Rattle.keyword.proofs.Position.{or_else, position_at, map_at}
use Rattle.header.proofs.Snoc.{only, position_snoc, second_snoc, repeated_snoc}
use Rattle.keyword.proofs.Slots.{slots_own, once_own}

module _ {A : Type 0} where
  -- the list of a function's values, where another function has the same values but at one place
  module _ (f g : List ℕ → A) where
    map_same : (us : List (List ℕ)) → ((i : ℕ) → i < length us → g (get_or us i []) ≡ f (get_or us i []))
        → map g us ≡ map f us
    map_same [] h = refl
    map_same (u ∷ us) h = ap₂ ◌∷◌ (h 0 (omega arith)) (map_same us (λ i p. h (suc i) (omega arith)))

    map_but : (us : List (List ℕ)) (j : ℕ) → j < length us
        → ((i : ℕ) → i < length us → (i ≡ j → ⊥) → g (get_or us i []) ≡ f (get_or us i []))
        → map g us ≡ set (map f us) j (g (get_or us j []))
    map_but [] j p h = absurd (omega arith)
    map_but (u ∷ us) zero p h =
        ap (λ (l : List A). g u ∷ l) (map_same us (λ i q. h (suc i) (omega arith) (λ e. omega arith)))
    map_but (u ∷ us) (suc j) p h =
        ap₂ ◌∷◌ (h 0 (omega arith) (λ e. omega arith))
        (map_but us j (le_of_suc-le-suc p) (λ i q r. h (suc i) (omega arith) (λ e. r (omega arith))))

  -- what one name more stores, in the values of a list in which each name has its own place
  module _ (us : List (List ℕ)) (own : (i : ℕ) → i < length us → position (get_or us i []) us ≡ Some i) (x : List ℕ)
      (none : A) (f : List ℕ → A) where
    entry_own : (j : ℕ) → position x us ≡ Some j → entry_at none (map f us) (Some j) ≡ f x
    entry_own j e = let p = position_at x us j e in map_at f us j none p.0 ∙ ap f p.1

    -- g differs from f at x alone, where it is v of the value of f
    module _ (g : List ℕ → A) (v : A → A) (others : (n : List ℕ) → same n x ≡ false → g n ≡ f n)
        (here : g x ≡ v (f x)) where
      by_place : (p : Option ℕ) → position x us ≡ p → map g us ≡ stored (map f us) p (v (entry_at none (map f us) p))
      by_place None e =
          map_same f g us (λ i q. others _ (same_false _ x (λ w.
          let u = rw w at (own i q) in cc)))
      by_place (Some j) e =
          let p = position_at x us j e in
          map_but f g us j p.0
          (λ i q r. others _ (same_false _ x (λ w. let u = rw w at (own i q) in let z : i ≡ j = cc in r z)))
          ∙ ap (set (map f us) j) (ap g p.1 ∙ here ∙ ap v (sym (entry_own j e)))

      pub one_more : map g us ≡ stored (map f us) (position x us) (v (entry_at none (map f us) (position x us)))
      one_more = by_place (position x us) refl

  -- no names: one value at each place
  map_one : (a : A) (f : List ℕ → A) → ((n : List ℕ) → f n ≡ a) → (us : List (List ℕ))
      → replicate (length us) a ≡ map f us
  map_one a f h [] = refl
  map_one a f h (u ∷ us) = ap₂ ◌∷◌ (sym (h u)) (map_one a f h us)

-- the first place of a name, and the entry of its first and second
abbrev pub first_in : List (List ℕ) → List ℕ → Option ℕ
first_in ns n = position n ns

abbrev pub entry_in : List (List ℕ) → List ℕ → Entry
entry_in ns n = record { first = position n ns; second = second n ns }

-- the index of the names ns, what check 3 has seen of them, and the first repeated one
pub record Indexed (ns : List (List ℕ)) (seen : List (Option ℕ)) (index : List Entry) (again : Option ℕ) : Type 0 where
  pub seens : seen ≡ map (first_in ns) once_names
  pub entries : index ≡ map (entry_in ns) slot_names
  pub repeats : again ≡ repeated ns

-- how long the lists are
module _ {ns : List (List ℕ)} {seen : List (Option ℕ)} {index : List Entry} {again : Option ℕ}
    (d : Indexed ns seen index again) where
  pub length_seen : length seen ≡ length once_names
  length_seen = rw d.seens (length-map once_names (first_in ns))

  pub length_index : length index ≡ length slot_names
  length_index = rw d.entries (length-map slot_names (entry_in ns))

kept_only : (f : Option ℕ) (m : ℕ) → or_else f (Some m) ≡ kept f m
kept_only (Some k) m = refl
kept_only None m = refl

after_only : (p f : Option ℕ) (m : ℕ) → or_else f (only (found p) m) ≡ kept_after p f m
after_only (Some k) f m = kept_only f m
after_only None (Some k) m = refl
after_only None None m = refl

module _ (ns : List (List ℕ)) (x : List ℕ) where
  abbrev more : List (List ℕ)
  more = ns ++ (x ∷ [])

  -- another name keeps its places
  first_other : (n : List ℕ) → same n x ≡ false → first_in more n ≡ first_in ns n
  first_other n e = (rw e at (position_snoc n x ns)) ∙ or_nothing (position n ns)

  second_other : (n : List ℕ) → same n x ≡ false → second n more ≡ second n ns
  second_other n e = (rw e at (second_snoc n x ns)) ∙ or_nothing (second n ns)

  entry_other : (n : List ℕ) → same n x ≡ false → entry_in more n ≡ entry_in ns n
  entry_other n e = rw (first_other n e, second_other n e)

  first_own : first_in more x ≡ kept (first_in ns x) (length ns)
  first_own = rw (same_refl x) at (position_snoc x x ns) ∙ kept_only (position x ns) (length ns)

  second_own : second x more ≡ kept_after (first_in ns x) (second x ns) (length ns)
  second_own = rw (same_refl x) at (second_snoc x x ns) ∙ after_only (position x ns) (second x ns) (length ns)

  entry_here : entry_in more x ≡ noted (entry_in ns x) (length ns)
  entry_here = rw (first_own, second_own)

  repeated_own : (p : Option ℕ) → position x once_names ≡ p
      → repeated more ≡ kept_after (entry_at None (map (first_in ns) once_names) p) (repeated ns) (length ns)
  repeated_own None e = (rw e at (repeated_snoc x [] ns)) ∙ after_only None (repeated ns) (length ns)
  repeated_own (Some j) e =
      (rw e at (repeated_snoc x [] ns)) ∙ after_only (position x ns) (repeated ns) (length ns)
      ∙ ap (λ (o : Option ℕ). kept_after o (repeated ns) (length ns))
      (sym (entry_own once_names once_own x None (first_in ns) j e))

  -- the index of one name more
  pub indexed_next : (seen : List (Option ℕ)) (index : List Entry) (again : Option ℕ) → Indexed ns seen index again
      → let o = position x once_names in let s = position x slot_names in
      Indexed more (stored seen o (kept (entry_at None seen o) (length ns)))
      (stored index s (noted (entry_at no_entry index s) (length ns)))
      (kept_after (entry_at None seen o) again (length ns))
  indexed_next seen index again d =
      let k = length ns in
      rw (d.seens, d.entries, d.repeats)
      (record {
        seens =
            sym (one_more once_names once_own x None (first_in ns) (first_in more) (λ old. kept old k)
            first_other first_own);
        entries =
            sym (one_more slot_names slots_own x no_entry (entry_in ns) (entry_in more) (λ old. noted old k)
            entry_other entry_here);
        repeats = sym (repeated_own (position x once_names) refl);
      })

-- no names
pub indexed_empty : Indexed [] (replicate (length once_names) None) (replicate (length slot_names) no_entry) None
unfolding position second repeated_after
indexed_empty = record {
  seens = map_one None (first_in []) (λ n. refl) once_names;
  entries = map_one no_entry (entry_in []) (λ n. refl) slot_names;
  repeats = refl;
}

-- the index of a header is that of the names that are read
module _ (h : List ℕ) (ns : List (List ℕ)) (e : names_read h ≡ ns) where
  pub index_read : map (entry_in ns) slot_names ≡ index_by h
  unfolding index_by
  index_read = ap (λ (xs : List (List ℕ)). map (entry_in xs) slot_names) (sym e)

pub empty_index : (h : List ℕ) → names_read h ≡ [] → replicate (length slot_names) no_entry ≡ index_by h
empty_index h e = indexed_empty.entries ∙ index_read h [] e
