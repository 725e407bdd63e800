-- How the search for the quote that closes a string goes on by the byte in front, and what may come after a value.
-- Assumes nothing.
use mathlib.Core.Path.{◌≡◌, sym, ap, ◌∙◌}
use mathlib.Core.List.{List, [], ◌∷◌}
use mathlib.Core.Bool.{true, false, false≢true, cond, and-true}
use Rattle.std.specs.Prelude.{Option, Some, None}
use Rattle.std.specs.Cmp.Lexicographic.{pointwise}
use Prim.Native.Nat.{ℕ, suc, ◌+◌, ◌-◌, ◌≤◌, ◌<◌}
use native.Mathlib.Omega.{arith}
use lib.ListN.{length, take, drop, get_or, drop_of_length-le}
use lib.Seq.{drop-cons}
use lib.Dec.{eqb, ltb}
use borrow.Author.Tests.{eq-eqb, ne_eqb, lt-ltb}
use Rattle.ascii.specs.Text.{front, space}
use Rattle.ascii.proofs.Cases.{by_test}
use Rattle.card.specs.Ends.{follows, closing}

other : (b : ℕ) (bs : List ℕ) → eqb b 39 ≡ false → closing (b ∷ bs) ≡ suc (closing bs)
unfolding closing
other b [] e = rw e
other b (c ∷ cs) e = rw e

single : (b : ℕ) (bs : List ℕ) → eqb b 39 ≡ true → pointwise eqb (take 1 bs) (39 ∷ []) ≡ false → closing (b ∷ bs) ≡ 0
unfolding closing
single b [] e f = rw e
single b (c ∷ cs) e f = rw (e, sym (and-true (eqb c 39)) ∙ f)

double : (b : ℕ) (bs : List ℕ) → eqb b 39 ≡ true → pointwise eqb (take 1 bs) (39 ∷ []) ≡ true → closing (b ∷ bs) ≡ suc (suc (closing (drop 1 bs)))
unfolding closing
double b [] e f = absurd (false≢true f)
double b (c ∷ cs) e f = rw (e, sym (and-true (eqb c 39)) ∙ f)

-- the place of the quote that closes is no further than the end
pub closing_le : (s : List ℕ) → closing s ≤ length s
unfolding closing
closing_le [] = omega arith
closing_le (b ∷ []) = by_test (λ (n : ℕ). n ≤ 1) (eqb b 39) (λ e. omega arith) (λ e. omega arith)
closing_le (b ∷ c ∷ cs) =
    by_test (λ (n : ℕ). n ≤ suc (suc (length cs))) (eqb b 39)
    (λ e. by_test (λ (n : ℕ). n ≤ suc (suc (length cs))) (eqb c 39) (λ f. omega (arith, closing_le cs)) (λ f. omega arith))
    (λ e. omega (arith, closing_le (c ∷ cs)))

-- by the byte after the leading spaces, if there is one
pub follows_none : (s : List ℕ) (n : ℕ) → n ≡ front space s → length s ≤ n → follows s ≡ true
unfolding follows
follows_none s n e h = rw (← e, drop_of_length-le s h)

pub follows_at : (s : List ℕ) (n b : ℕ) → n ≡ front space s → n < length s → b ≡ get_or s n b → follows s ≡ eqb b 47
unfolding follows
follows_at s n b e h r = rw (← e, drop-cons s n b h) (ap (λ (x : ℕ). eqb x 47) (sym r))

-- what is left of a text, in which the same quote closes
abbrev pub Left : List ℕ → List ℕ → Type 0
Left s r = (length r ≤ length s) × (closing s ≡ closing r + (length s - length r))

-- where the quote that closes stands, if one does
abbrev pub closing_place : List ℕ → Option ℕ
closing_place s = cond (ltb (closing s) (length s)) (Some (closing s)) None

module _ (s r : List ℕ) (left : Left s r) where
  module _ (b : ℕ) (after : List ℕ) (first : r ≡ b ∷ after) where
    pub other_passed : (b ≡ 39 → ⊥) → Left s after
    other_passed p =
        let e : closing r ≡ suc (closing after) = rw first (other b after (ne_eqb b 39 p)) in
        (omega (arith, left, ap length first), omega (arith, left, e, ap length first))

    module _ (quote : b ≡ 39) where
      pub double_passed : pointwise eqb (take 1 after) (39 ∷ []) ≡ true → (rest : List ℕ) → rest ≡ drop 1 after
          → length rest + 1 ≡ length after → Left s rest
      double_passed t rest e n =
          let f : closing r ≡ suc (suc (closing rest)) = rw (first, e) (double b after (eq-eqb b 39 quote) t) in
          (omega (arith, left, ap length first), omega (arith, left, f, n, ap length first))

      pub single_closes : pointwise eqb (take 1 after) (39 ∷ []) ≡ false → Some (length s - length r) ≡ closing_place s
      single_closes t =
          let f : closing r ≡ 0 = rw first (single b after (eq-eqb b 39 quote) t) in
          let e : closing s ≡ length s - length r = omega (arith, left, f) in
          rw (e, lt-ltb (length s - length r) (length s) (omega (arith, left, ap length first)))
