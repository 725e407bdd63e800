-- From a column to the next that is chosen: the columns between are not, so what a column that is not chosen leaves as it is stays so; and the
-- zeros at the low end of a shifted choice count them.
-- Assumes nothing.
use Prim.Native.Nat.{ℕ, zero, suc, ◌+◌, ◌-◌, ◌/◌, ◌%◌, ◌^◌, ◌≤◌, ◌<◌, min}
use mathlib.Core.Path.{◌≡◌, refl, ap, ◌∙◌}
use mathlib.Core.Bool.{Bool, true, false, cond}
use mathlib.Core.List.{List}
use native.Mathlib.Nat.{suc-add, pow-suc, div-div-eq-div-mul, mod-lt}
use native.Mathlib.Omega.{arith}
use lib.Count.{count_trailing_zeros, under}
use lib.Dec.{eqb}
use Rattle.ascii.proofs.Cases.{either}
use Rattle.layout.specs.declared.BinTable.{BinTable}
use Rattle.walk.specs.Plain.{chosen}
use Rattle.walk.proofs.Laws.{from, from_skip}
use Rattle.table.specs.Scan.{next_from, next_chosen}

-- ---- what holds at a column holds at the next chosen one

module _ (choice : ℕ) (P : ℕ → Type 0) (on : (c : ℕ) → chosen choice c ≡ false → P c → P (suc c)) where
  to_next_of : (k c : ℕ) → P c → P (next_from choice c k)
  unfolding next_from
  to_next_of zero c p = p
  to_next_of (suc k) c p = either (chosen choice c) (λ e. rw e p) (λ e. rw e (to_next_of k (suc c) (on c e p)))

  pub to_next : (c : ℕ) → P c → P (next_chosen choice c)
  to_next c p = to_next_of _ c p

-- it is chosen, if it is a column
next_is : (choice k c : ℕ) → next_from choice c k < c + k → chosen choice (next_from choice c k) ≡ true
unfolding next_from
next_is choice zero c h = absurd (omega (arith, h))
next_is choice (suc k) c h = either (chosen choice c) (λ e. rw e e) (λ e. rw e (next_is choice k (suc c) (omega (arith, rw e at h))))

-- ---- what a loop asks: c is a column, and j the next from it on

module _ (choice c j : ℕ) (is : j ≡ next_chosen choice c) where
  pub next_later : c ≤ j
  next_later = rw is (to_next choice (λ (i : ℕ). c ≤ i) (λ i e h. omega (arith, h)) c (omega arith))

  pub next_chosen_lem : (n : ℕ) → n ≤ 64 → j < n → chosen choice j ≡ true
  next_chosen_lem n few h =
      let q : next_chosen choice c < c + (64 - c) = omega (arith, is, few, h) in rw is (next_is choice (64 - c) c q)

  -- the entries of a row from the one on are those from the other on
  pub next_from_lem : (l : BinTable) (a : List ℕ) (heap : Bool) (r : ℕ) → from l a choice heap r c ≡ from l a choice heap r j
  next_from_lem l a heap r =
      rw is
      (to_next choice (λ (i : ℕ). from l a choice heap r c ≡ from l a choice heap r i) (λ i e q. q ∙ from_skip l a choice heap r i e) c refl)

-- ---- by the zeros of the choice

zeros_min : (k d m : ℕ) → count_trailing_zeros k m ≡ min k (count_trailing_zeros (k + d) m)
unfolding count_trailing_zeros
zeros_min zero d m = omega arith
zeros_min (suc k) d m = rw (suc-add k d) (go (m % 2) (count_trailing_zeros k (m / 2)) (count_trailing_zeros (k + d) (m / 2)) (zeros_min k d (m / 2)))
  where
    go : (b t u : ℕ) → t ≡ min k u → under b t ≡ min (suc k) (under b u)
    go zero t u e = omega (arith, e)
    go (suc b) t u e = omega arith

halved : (choice c : ℕ) → choice / 2 ^ c / 2 ≡ choice / 2 ^ suc c
halved choice c = div-div-eq-div-mul choice (2 ^ c) 2 ∙ rw (← pow-suc 2 c)

next_zeros : (choice k c : ℕ) → next_from choice c k ≡ c + count_trailing_zeros k (choice / 2 ^ c)
unfolding next_from count_trailing_zeros chosen
next_zeros choice zero c = omega arith
next_zeros choice (suc k) c =
    go (choice / 2 ^ c % 2) _ (count_trailing_zeros k (choice / 2 ^ c / 2)) (mod-lt (choice / 2 ^ c) (omega arith)) (next_zeros choice k (suc c) ∙ rw (halved choice c))
  where
    go : (b x t : ℕ) → b < 2 → x ≡ suc c + t → cond (eqb b 1) c x ≡ c + under b t
    go zero x t h e = omega (arith, e)
    go (suc zero) x t h e = omega arith
    go (suc (suc b)) x t h e = absurd (omega (arith, h))

-- so the zeros of all 64 bits are enough
pub next_by_zeros : (choice c : ℕ) → c < 64 → next_chosen choice c ≡ c + min (64 - c) (count_trailing_zeros 64 (choice / 2 ^ c))
next_by_zeros choice c h =
    let e : 64 - c + c ≡ 64 = omega (arith, h) in
    next_zeros choice (64 - c) c ∙ ap (λ (z : ℕ). c + z) (zeros_min (64 - c) c (choice / 2 ^ c) ∙ rw e)
