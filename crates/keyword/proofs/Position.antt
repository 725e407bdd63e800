-- Laws of `position`: what a place says, a place in two lists one after the other, and a place among the values of a function.
-- Assumes nothing.
use Rattle.std.specs.Prelude.{Option, Some, None}
use mathlib.Core.Path.{◌≡◌, refl, sym, ap, ap₂, ◌∙◌}
use mathlib.Core.Bool.{Bool, true, false, cond}
use mathlib.Core.List.{List, [], ◌∷◌, ◌++◌, map}
use Prim.Native.Nat.{ℕ, zero, suc, ◌+◌, ◌-◌, ◌<◌, ◌≤◌}
use native.Mathlib.Nat.{zero-add, add-zero, suc-add, add-suc, le_of_suc-le-suc}
use native.Mathlib.Omega.{arith}
use lib.ListN.{length, drop, get_or}
use lib.Dec.{eqb, ltb}
use Rattle.std.specs.List.{position_or_len}
use Rattle.ascii.proofs.Cases.{either}
use borrow.Author.Tests.{eqb-true, eqb-false, lt-ltb, le-ltb, ltb-true, ltb-false}
use Rattle.ascii.specs.Text.{same}
use Rattle.keyword.specs.Names.{further, range, later, position}
use Rattle.ascii.proofs.Same.{same_true, same_refl, same_false, same_root}

-- a place is below the length, and the name stands there
module _ (n : List ℕ) where
  later_at : (x : List ℕ) (xs : List (List ℕ)) → ((s : ℕ) → position n xs ≡ Some s → (s < length xs) × (get_or xs s [] ≡ n))
      → (f : Option ℕ) → position n xs ≡ f → (s : ℕ) → later f ≡ Some s → (s < length (x ∷ xs)) × (get_or (x ∷ xs) s [] ≡ n)
  later_at x xs ih None e s h = cc
  later_at x xs ih (Some k) e zero h = let z : suc k ≡ 0 = cc in absurd (omega arith)
  later_at x xs ih (Some k) e (suc s) h =
      let z : suc k ≡ suc s = cc in
      let y : k ≡ s = omega arith in
      let w = ih s (e ∙ ap Some y) in
      (omega arith, w.1)

  here_at : (t : Bool) (x : List ℕ) (xs : List (List ℕ)) → same n x ≡ t → ((s : ℕ) → later (position n xs) ≡ Some s → (s < length (x ∷ xs)) × (get_or (x ∷ xs) s [] ≡ n))
      → (s : ℕ) → cond t (Some 0) (later (position n xs)) ≡ Some s → (s < length (x ∷ xs)) × (get_or (x ∷ xs) s [] ≡ n)
  here_at true x xs e ih zero h = (omega arith, sym (same_true n x e))
  here_at true x xs e ih (suc s) h = let z : 0 ≡ suc s = cc in absurd (omega arith)
  here_at false x xs e ih s h = ih s h

  pub position_at : (xs : List (List ℕ)) (s : ℕ) → position n xs ≡ Some s → (s < length xs) × (get_or xs s [] ≡ n)
  unfolding position
  position_at [] s h = cc
  position_at (x ∷ xs) s h = here_at (same n x) x xs refl (later_at x xs (position_at xs) (position n xs) refl) s h

-- the first place of two
abbrev pub or_else : Option ℕ → Option ℕ → Option ℕ
or_else (Some k) g = Some k
or_else None g = g

pub further_zero : (f : Option ℕ) → further 0 f ≡ f
further_zero (Some k) = ap Some (zero-add k)
further_zero None = refl

further_suc : (by : ℕ) (f : Option ℕ) → further (suc by) f ≡ later (further by f)
further_suc by (Some k) = ap Some (suc-add by k)
further_suc by None = refl

later_or : (f g : Option ℕ) → later (or_else f g) ≡ or_else (later f) (later g)
later_or (Some k) g = refl
later_or None g = refl

cond_or : (t : Bool) (f g : Option ℕ) → cond t (Some 0) (or_else f g) ≡ or_else (cond t (Some 0) f) g
cond_or true f g = refl
cond_or false f g = refl

-- in two lists, one after the other
pub position_append : (n : List ℕ) (xs ys : List (List ℕ)) → position n (xs ++ ys) ≡ or_else (position n xs) (further (length xs) (position n ys))
unfolding position
position_append n [] ys = sym (further_zero (position n ys))
position_append n (x ∷ xs) ys =
    rw (position_append n xs ys, later_or, ← further_suc) (cond_or (same n x) (later (position n xs)) (further (suc (length xs)) (position n ys)))

-- a place, if it is below m
abbrev pub below : ℕ → Option ℕ → Option ℕ
below m (Some k) = cond (ltb k m) (Some k) None
below m None = None

-- in the first of two lists, one after the other
pub position_front : (n : List ℕ) (xs ys : List (List ℕ)) → position n xs ≡ below (length xs) (position n (xs ++ ys))
position_front n xs ys = by (position n xs) refl ∙ ap (below (length xs)) (sym (position_append n xs ys))
  where
    past : (f : Option ℕ) → None ≡ below (length xs) (further (length xs) f)
    past (Some k) = rw (le-ltb (length xs + k) (length xs) (omega arith))
    past None = refl

    by : (f : Option ℕ) → position n xs ≡ f → f ≡ below (length xs) (or_else f (further (length xs) (position n ys)))
    by (Some k) e = rw (lt-ltb k (length xs) (position_at n xs k e).0)
    by None e = past (position n ys)

-- where each name has the same bytes in front, they say nothing
pub position_root : (root n : List ℕ) (f : ℕ → List ℕ) (xs : List ℕ) → position (root ++ n) (map (λ (k : ℕ). root ++ f k) xs) ≡ position n (map f xs)
unfolding position
position_root root n f [] = refl
position_root root n f (x ∷ xs) = rw (same_root root n (f x), position_root root n f xs)

pub length_range : (a count : ℕ) → length (range a count) ≡ count
unfolding range
length_range a zero = refl
length_range a (suc count) = ap suc (length_range (suc a) count)

pub range_append : (a m k : ℕ) → range a (m + k) ≡ range a m ++ range (a + m) k
unfolding range
range_append a zero k = ap₂ range (sym (add-zero a)) (zero-add k)
range_append a (suc m) k =
    rw suc-add (ap (λ (l : List ℕ). a ∷ l) (range_append (suc a) m k ∙ ap (λ (b : ℕ). range (suc a) m ++ range b k) (suc-add a m ∙ sym (add-suc a m))))

-- the value at a place of a list of names, and of a range
pub map_at : {B : Type 0} (f : List ℕ → B) (us : List (List ℕ)) (j : ℕ) (d : B) → j < length us → get_or (map f us) j d ≡ f (get_or us j [])
map_at f [] j d p = absurd (omega arith)
map_at f (u ∷ us) zero d p = refl
map_at f (u ∷ us) (suc j) d p = map_at f us j d (le_of_suc-le-suc p)

pub range_at : {B : Type 0} (f : ℕ → B) (a count i : ℕ) (d : B) → i < count → get_or (map f (range a count)) i d ≡ f (a + i)
unfolding range
range_at f a zero i d h = absurd (omega arith)
range_at f a (suc count) zero d h = ap f (omega arith)
range_at f a (suc count) (suc i) d h = range_at f (suc a) count i d (omega arith) ∙ ap f (omega arith)

-- a name that no value is
pub position_no : (n : List ℕ) (f : ℕ → List ℕ) (a count : ℕ) → ((k : ℕ) → a ≤ k → k < a + count → n ≡ f k → ⊥) → position n (map f (range a count)) ≡ None
unfolding position range
position_no n f a zero h = refl
position_no n f a (suc count) h =
    rw (same_false n (f a) (h a (omega arith) (omega arith)), position_no n f (suc a) count (λ k p q. h k (omega arith) (omega arith)))

-- a name that one value is
module _ (f : ℕ → List ℕ) (n : ℕ) where
  value_step : (a count : ℕ) (t : Bool) → eqb n a ≡ t → ((n ≡ a → ⊥) → f n ≡ f a → ⊥) → a ≤ n
      → (suc a ≤ n → position (f n) (map f (range (suc a) count)) ≡ Some (n - suc a))
      → position (f n) (map f (range a (suc count))) ≡ Some (n - a)
  unfolding position range
  value_step a count true e ne p ih =
      let h : n ≡ a = eqb-true n a e in
      let z : n - a ≡ 0 = omega arith in
      rw (z, h, same_refl (f a))
  value_step a count false e ne p ih =
      let h : n ≡ a → ⊥ = eqb-false n a e in
      let z : n - a ≡ suc (n - suc a) = omega arith in
      rw (z, same_false (f n) (f a) (ne h), ih (omega arith))

  pub position_value : (a count : ℕ) → ((k : ℕ) → a ≤ k → k < a + count → f n ≡ f k → n ≡ k) → a ≤ n → n < a + count → position (f n) (map f (range a count)) ≡ Some (n - a)
  position_value a zero inj p q = absurd (omega arith)
  position_value a (suc count) inj p q =
      value_step a count (eqb n a) refl (λ h e. h (inj a (omega arith) (omega arith) e)) p
      (λ r. position_value (suc a) count (λ k u v. inj k (omega arith) (omega arith)) r (omega arith))

-- the library's place of the first that passes a test, where the test is for the same name
module _ {A : Type 0} (n : List ℕ) (test : A → Bool) (name : A → List ℕ) where
  found_later : (t : Bool) (m l : ℕ) → ltb m l ≡ t → cond (ltb (1 + m) (suc l)) (Some (1 + m)) None ≡ later (cond t (Some m) None)
  found_later true m l e = rw (lt-ltb (1 + m) (suc l) (omega (arith, ltb-true m l e))) (ap Some (omega arith))
  found_later false m l e = rw (le-ltb (1 + m) (suc l) (omega (arith, ltb-false m l e)))

  pub position_found : (xs : List A) → map test xs ≡ map (λ (a : A). same n (name a)) xs
      → cond (ltb (position_or_len test xs) (length xs)) (Some (position_or_len test xs)) None ≡ position n (map name xs)
  unfolding position
  position_found [] e = refl
  position_found (x ∷ xs) e =
      let t : test x ≡ same n (name x) = ap (λ (l : List Bool). get_or l 0 false) e in
      either (test x)
      (λ h. rw (h, sym t ∙ h, lt-ltb 0 (length (x ∷ xs)) (omega arith)))
      (λ h. rw (h, sym t ∙ h) (found_later _ (position_or_len test xs) (length xs) refl ∙ ap later (position_found xs (ap (drop 1) e))))
