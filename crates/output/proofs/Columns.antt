-- The columns of a `choose` line: the list that has each of its indexes at the place that it names opens the same
-- columns as its indexes do.
-- Assumes nothing.
use Rattle.std.specs.Prelude.{Option, Some}
use Prim.Native.Nat.{ℕ, zero, suc, ◌+◌, ◌<◌, ◌≤◌}
use mathlib.Core.Path.{◌≡◌, refl, sym, ap, ◌∙◌}
use mathlib.Core.Logic.{◌⊎◌, inl, inr, ⊎_elim}
use mathlib.Core.Bool.{Bool, true, false, ◌||◌, or-false}
use mathlib.Core.List.{List, [], ◌∷◌}
use native.Mathlib.Omega.{arith}
use lib.Dec.{eqb, ltb}
use lib.ListN.{length, set, replicate, length-set, length-replicate}
use lib.Seq.{set_out}
use borrow.Author.Tests.{ltb-true, ltb-false, ne_eqb}
use Rattle.std.proofs.Math.Bool.{or_self_left}
use Rattle.ascii.proofs.Cases.{either}
use Rattle.tform.specs.Width.{among}
use Rattle.layout.specs.declared.BinTable.{BinTable}
use Rattle.walk.specs.Step.{fits, listed, choice_from, open_with}
use Rattle.walk.proofs.Inside.{fits_limits}
use Rattle.steps.specs.Split.{line_at}
use Rattle.steps.specs.Line.{says, indexes_of, in_places}
use Rattle.output.specs.Settings.{columns_in}

-- ---- a list of which each place holds its own index or m

abbrev Own : ℕ → ℕ → List ℕ → Type 0
Own m k [] = Unit {0}
Own m k (x ∷ xs) = ((x ≡ k) ⊎ (x ≡ m)) × Own m (suc k) xs

own_none : (m k n : ℕ) → Own m k (replicate n m)
own_none m k zero = tt
own_none m k (suc n) = (inr refl, own_none m (suc k) n)

own_set : (m k : ℕ) (xs : List ℕ) (i n : ℕ) → n ≡ k + i → Own m k xs → Own m k (set xs i n)
own_set m k [] i n e o = tt
own_set m k (x ∷ xs) zero n e o = (inl (omega (arith, e)), o.1)
own_set m k (x ∷ xs) (suc i) n e o = (o.0, own_set m (suc k) xs i n (omega (arith, e)) o.1)

swapped : (p q r : Bool) → (p || (q || r)) ≡ (q || (p || r))
swapped true true r = refl
swapped true false r = refl
swapped false q r = refl

moved : (p q r : Bool) → (q || (p || r)) ≡ (p || q || r)
moved true true r = refl
moved true false r = refl
moved false q r = refl

-- one more index in such a list
among_set : (c m k : ℕ) (xs : List ℕ) (i n : ℕ) → c < m → n ≡ k + i → i < length xs → Own m k xs
    → among c (set xs i n) ≡ (eqb c n || among c xs)
unfolding among
among_set c m k [] i n b e h o = absurd (omega arith)
among_set c m k (x ∷ xs) zero n b e h o =
    ⊎_elim
    (λ q. let z : x ≡ n = omega (arith, q, e) in rw z (sym (or_self_left (eqb c n) (among c xs))))
    (λ q. let z : eqb c x ≡ false = ne_eqb c x (λ w. absurd (omega (arith, w, q))) in rw z)
    o.0
among_set c m k (x ∷ xs) (suc i) n b e h o =
    ap (λ (t : Bool). eqb c x || t) (among_set c m (suc k) xs i n b (omega (arith, e)) (omega arith) o.1)
    ∙ swapped (eqb c x) (eqb c n) (among c xs)

among_none : (c m n : ℕ) → c < m → among c (replicate n m) ≡ false
unfolding among
among_none c m zero b = refl
among_none c m (suc n) b =
    let z : eqb c m ≡ false = ne_eqb c m (λ w. absurd (omega (arith, w))) in rw z (among_none c m n b)

-- all indexes, each at its place
among_places : (c m : ℕ) (xs is : List ℕ) → c < m → length xs ≡ m → Own m 0 xs
    → among c (in_places xs is) ≡ (among c is || among c xs)
unfolding among in_places
among_places c m xs [] b e o = refl
among_places c m xs (i ∷ is) b e o =
    either (ltb i m)
    (λ t.
    let h = ltb-true i m t in
    let z : i ≡ 0 + i = omega arith in
    among_places c m (set xs i i) is b (length-set xs i i ∙ e) (own_set m 0 xs i i z o)
    ∙ ap (λ (t : Bool). among c is || t) (among_set c m 0 xs i i b z (omega (arith, h, e)) o)
    ∙ moved (eqb c i) (among c is) (among c xs))
    (λ t.
    let h = ltb-false i m t in
    let z : eqb c i ≡ false = ne_eqb c i (λ w. absurd (omega (arith, w, h))) in
    rw (z, set_out xs i i (omega (arith, h, e))) (among_places c m xs is b e o))

-- ---- the opening

-- the choice depends on which columns are wanted alone
choice_same : (xs ys : List ℕ) (c n : ℕ) → ((k : ℕ) → k < c + n → among k xs ≡ among k ys)
    → choice_from (listed xs) c n ≡ choice_from (listed ys) c n
unfolding choice_from
choice_same xs ys c zero same = refl
choice_same xs ys c (suc n) same =
    rw (same c (omega arith), choice_same xs ys (suc c) n (λ k h. same k (omega (arith, h))))

-- no column is m
module _ (m : ℕ) where
  among_listed : (c : ℕ) (is : List ℕ) → c < m → among c (in_places (replicate m m) is) ≡ among c is
  among_listed c is b =
      among_places c m (replicate m m) is b (length-replicate m m) (own_none m 0 m)
      ∙ ap (λ (t : Bool). among c is || t) (among_none c m m b)
      ∙ or-false (among c is)

  pub columns_same : (l : BinTable) (a is : List ℕ) (heap : Bool) → (fits l a ≡ true → l.tfields ≤ m)
      → open_with l a (listed (in_places (replicate m m) is)) heap ≡ open_with l a (listed is) heap
  unfolding open_with
  columns_same l a is heap few =
      either (fits l a)
      (λ t.
      let below : (k : ℕ) → k < 0 + l.tfields → k < m = λ k h. omega (arith, h, few t) in
      let z = choice_same (in_places (replicate m m) is) is 0 l.tfields (λ k h. among_listed k is (below k h)) in
      rw (t, z))
      (λ t. rw t)

-- by what the code has: the columns that were opened, the line, and the place of the line
pub columns_placed : (l : BinTable) (a s xs : List ℕ) (heap : Bool) (at : ℕ) (t : List ℕ) (x : Option ℕ) → x ≡ Some at → t ≡ line_at s at
    → xs ≡ in_places (replicate 64 64) (indexes_of (says t)) → open_with l a (listed xs) heap ≡ open_with l a (columns_in s x) heap
columns_placed l a s xs heap at t x e f g =
    rw (g, f, e) (columns_same 64 l a (indexes_of (says (line_at s at))) heap (λ t. (fits_limits l a t).columns))
