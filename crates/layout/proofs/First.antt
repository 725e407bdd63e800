-- The first column that passes a test.
-- Assumes nothing.
use Rattle.std.specs.Prelude.{Option, Some, None}
use Prim.Native.Nat.{ℕ, zero, suc, ◌+◌, ◌≤◌, ◌<◌}
use mathlib.Core.Path.{◌≡◌, refl, sym, ◌∙◌, ap, subst}
use mathlib.Core.Bool.{Bool, true, false, cond, true≢false}
use mathlib.Core.List.{List, [], ◌∷◌}
use mathlib.Core.Logic.{◌⊎◌, inl, inr, ⊎_elim}
use native.Mathlib.Nat.{add-zero}
use native.Mathlib.Omega.{arith}
use lib.Dec.{ltb}
use lib.ListN.{length, get_or, get_or-eq_default}
use borrow.Author.Tests.{lt-ltb, le-ltb, ltb-true, ltb-false}
use Rattle.std.specs.List.{position_or_len}
use Rattle.ascii.proofs.Cases.{either}
use Rattle.layout.specs.declared.Column.{Column}
use Rattle.layout.specs.Layout.{no_column}
use Rattle.layout.specs.Names.{first_column}

pub not_both : (f : Option ℕ) (c : ℕ) → f ≡ None → f ≡ Some c → ⊥
not_both f c n a = cc

-- the library's place of the first that passes
first_from : (test : Column → Bool) (i : ℕ) (cs : List Column)
    → cond (ltb (position_or_len test cs) (length cs)) (Some (i + position_or_len test cs)) None ≡ first_column test i cs
unfolding first_column
first_from test i [] = refl
first_from test i (c ∷ cs) =
    either (test c)
    (λ t. rw (t, lt-ltb 0 (length (c ∷ cs)) (omega arith), add-zero i))
    (λ t. rw t (later (ltb (position_or_len test cs) (length cs)) refl ∙ first_from test (suc i) cs))
  where
    later : (t : Bool) → ltb (position_or_len test cs) (length cs) ≡ t
        → cond (ltb (1 + position_or_len test cs) (suc (length cs))) (Some (i + (1 + position_or_len test cs))) None
        ≡ cond (ltb (position_or_len test cs) (length cs)) (Some (suc i + position_or_len test cs)) None
    later true e =
        rw (e, lt-ltb (1 + position_or_len test cs) (suc (length cs)) (omega (arith, ltb-true (position_or_len test cs) (length cs) e)))
        (ap Some (omega arith))
    later false e =
        rw (e, le-ltb (1 + position_or_len test cs) (suc (length cs)) (omega (arith, ltb-false (position_or_len test cs) (length cs) e)))

pub first_position : (test : Column → Bool) (cs : List Column)
    → cond (ltb (position_or_len test cs) (length cs)) (Some (position_or_len test cs)) None ≡ first_column test 0 cs
first_position test cs =
    ap (λ (n : ℕ). cond (ltb (position_or_len test cs) (length cs)) (Some n) None) (omega arith) ∙ first_from test 0 cs

-- a search for the first column that passes a test, which no column that is not there does
module _ (test : Column → Bool) (none : test no_column ≡ false) where
  abbrev passes : List Column → ℕ → Bool
  passes cs d = test (get_or cs d no_column)

  -- it ends at a column that passes and has none in front of it that does, or no column does
  FirstAt : ℕ → List Column → Type 0
  FirstAt i cs =
      (d : ℕ) × (first_column test i cs ≡ Some (i + d)) × (passes cs d ≡ true) × ((e : ℕ) → e < d → passes cs e ≡ false)

  NoneAt : ℕ → List Column → Type 0
  NoneAt i cs = (first_column test i cs ≡ None) × ((e : ℕ) → passes cs e ≡ false)

  in_front : (x : Column) (xs : List Column) (d : ℕ) → test x ≡ false → ((e : ℕ) → e < d → passes xs e ≡ false)
      → (e : ℕ) → e < suc d → passes (x ∷ xs) e ≡ false
  in_front x xs d t h zero p = t
  in_front x xs d t h (suc e) p = h e (omega (arith, p))

  nowhere : (x : Column) (xs : List Column) → test x ≡ false → ((e : ℕ) → passes xs e ≡ false)
      → (e : ℕ) → passes (x ∷ xs) e ≡ false
  nowhere x xs t h zero = t
  nowhere x xs t h (suc e) = h e

  search_ends : (i : ℕ) (cs : List Column) → FirstAt i cs ⊎ NoneAt i cs
  unfolding first_column FirstAt NoneAt
  search_ends i [] = inr (refl, λ e. none)
  search_ends i (x ∷ xs) =
      either (test x)
      (λ t. inl (0, rw (t, add-zero i) refl, t, λ e p. absurd (omega (arith, p))))
      (λ t. ⊎_elim
      (λ q. let k : suc i + q.0 ≡ i + suc q.0 = omega arith in
      inl (suc q.0, rw t (q.1 ∙ ap Some k), q.2, in_front x xs q.0 t q.3))
      (λ q. inr (rw t q.0, nowhere x xs t q.1))
      (search_ends (suc i) xs))

  -- the same from the first column on
  from_front : (cs : List Column) → FirstAt 0 cs
      → (d : ℕ) × (first_column test 0 cs ≡ Some d) × (passes cs d ≡ true) × ((e : ℕ) → e < d → passes cs e ≡ false)
  unfolding FirstAt
  from_front cs q = let z : 0 + q.0 ≡ q.0 = omega arith in (q.0, q.1 ∙ ap Some z, q.2, q.3)

  pub first_passes : (cs : List Column) (c : ℕ) → first_column test 0 cs ≡ Some c
      → (passes cs c ≡ true) × ((d : ℕ) → d < c → passes cs d ≡ false)
  unfolding NoneAt
  first_passes cs c e =
      ⊎_elim
      (λ f. let q = from_front cs f in let g : Some q.0 ≡ Some c = sym q.1 ∙ e in let k : q.0 ≡ c = cc in
      (subst (λ d. passes cs d ≡ true) k q.2, λ d p. q.3 d (omega (arith, k, p))))
      (λ q. absurd (not_both _ c q.0 e))
      (search_ends 0 cs)

  pub first_none : (cs : List Column) → first_column test 0 cs ≡ None → (c : ℕ) → passes cs c ≡ false
  unfolding NoneAt
  first_none cs e =
      ⊎_elim
      (λ f. let q = from_front cs f in absurd (not_both _ q.0 e q.1))
      (λ q. q.1)
      (search_ends 0 cs)

  pub first_upto : (cs : List Column) (c : ℕ) → passes cs c ≡ true
      → (d : ℕ) × (first_column test 0 cs ≡ Some d) × (d ≤ c) × (passes cs d ≡ true)
  unfolding NoneAt
  first_upto cs c e =
      ⊎_elim
      (λ f. let q = from_front cs f in
      (q.0, q.1, either (ltb c q.0) (λ t. absurd (true≢false (sym e ∙ q.3 c (ltb-true c q.0 t)))) (ltb-false c q.0), q.2))
      (λ q. absurd (true≢false (sym e ∙ q.1 c)))
      (search_ends 0 cs)

  -- a column that is found is one of those searched
  pub first_inside : (cs : List Column) (c : ℕ) → first_column test 0 cs ≡ Some c → c < length cs
  first_inside cs c e =
      either (ltb c (length cs))
      (ltb-true c (length cs))
      (λ t. let past = get_or-eq_default cs no_column {n = c} (ltb-false c (length cs) t) in
      absurd (true≢false (sym (first_passes cs c e).0 ∙ ap test past ∙ none)))

-- two tests that say the same of every column find the same
pub first_same : (f g : Column → Bool) → ((x : Column) → f x ≡ g x)
    → (i : ℕ) (cs : List Column) → first_column f i cs ≡ first_column g i cs
first_same f g h i cs = λ k. first_column (λ (x : Column). h x k) i cs
