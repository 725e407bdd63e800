-- A number read digit by digit, and the number that some digits at the front of a text are.
-- Assumes nothing.
use Rattle.std.specs.Prelude.{Option, Some, None}
use Rattle.std.proofs.lemmas.Option.{cond_some}
use mathlib.Core.Path.{◌≡◌, refl, sym, ap, ◌∙◌}
use mathlib.Core.List.{List, [], ◌∷◌, ◌++◌}
use mathlib.Core.Bool.{Bool, ◌&&◌, cond, and-false}
use Prim.Native.Nat.{ℕ, zero, suc, ◌+◌, ◌-◌, ◌*◌, ◌^◌, ◌≤◌, ◌<◌}
use native.Mathlib.Nat.{le_of_suc-le-suc, not-suc-le-zero}
use native.Mathlib.Numerals.{add-one}
use native.Mathlib.Omega.{arith}
use lib.ListN.{length, length-append, take, drop, get_or, drop_of_length-le}
use lib.Seq.{drop-cons, length-take-le}
use lib.Dec.{eqb, ltb, eqb-zero-suc, eqb-suc-suc}
use borrow.Author.Tests.{eq-eqb, lt-ltb, le-ltb, ltb-true, ltb-false}
use Rattle.ascii.specs.Text.{front, digit, decimal}
use Rattle.ascii.proofs.Cases.{either}
use Rattle.ascii.proofs.Front.{front_le, front_passes}
use Rattle.ascii.proofs.Decimal.{decimal_next, ten_next, ten_le, digit_range}
use Rattle.ascii.specs.Number.{read_on, number}

-- a number with one digit more, where it is still below 2 ^ 64
abbrev pub digit_after : ℕ → ℕ → Option ℕ
digit_after n b = cond (digit b && ltb (n * 10 + (b - 48)) (2 ^ 64)) (Some (n * 10 + (b - 48))) None

abbrev onward : (ℕ → Option ℕ) → Option ℕ → Option ℕ
onward f (Some n) = f n
onward f None = None

-- the number n with some digits more, taken one by one
unfoldable pub number_from : ℕ → List ℕ → Option ℕ
number_from n [] = Some n
number_from n (b ∷ bs) = onward (λ (m : ℕ). number_from m bs) (digit_after n b)

-- a number only grows by its digits
decimal_grows : (n : ℕ) (s : List ℕ) → n ≤ decimal n s
unfolding decimal
decimal_grows n [] = omega arith
decimal_grows n (b ∷ bs) = omega (arith, decimal_grows (n * 10 + (b - 48)) bs)

pub from_is : (n : ℕ) (s : List ℕ) → n < 2 ^ 64 → number_from n s ≡ read_on n s
unfolding number_from front decimal
from_is n [] h = rw (lt-ltb n (2 ^ 64) h)
from_is n (b ∷ bs) h =
    let m = n * 10 + (b - 48) in
    either (digit b)
    (λ d. either (ltb m (2 ^ 64))
    (λ t. rw (d, t, eqb-suc-suc (front digit bs) (length bs)) (from_is m bs (ltb-true m (2 ^ 64) t)))
    (λ t. rw (d, t, le-ltb (decimal m bs) (2 ^ 64) (omega (arith, decimal_grows m bs, ltb-false m (2 ^ 64) t)), and-false (eqb (suc (front digit bs)) (suc (length bs))))))
    (λ d. rw (d, eqb-zero-suc (length bs)))

pub number_none : (s : List ℕ) → length s ≡ 0 → number s ≡ None
unfolding number
number_none s e = rw e

pub number_some : (s : List ℕ) → (length s ≡ 0 → ⊥) → read_on 0 s ≡ number s
unfolding number
number_some s h = rw (lt-ltb 0 (length s) (omega arith))

-- one text after another
from_append : (n : ℕ) (a b : List ℕ) → number_from n (a ++ b) ≡ onward (λ (m : ℕ). number_from m b) (number_from n a)
unfolding number_from
from_append n [] b = refl
from_append n (x ∷ a) b =
    elim (digit_after n x) as (λ (o : Option ℕ). onward (λ (m : ℕ). number_from m (a ++ b)) o ≡ onward (λ (m : ℕ). number_from m b) (onward (λ (m : ℕ). number_from m a) o)) [
      | Some m ↦ from_append m a b
      | None ↦ refl
    ]

module _ (a b : List ℕ) (some : length a ≡ 0 → ⊥) where
  number_append : number (a ++ b) ≡ onward (λ (m : ℕ). number_from m b) (number a)
  number_append =
      sym (number_some (a ++ b) (simp length-append (omega arith))) ∙ sym (from_is 0 (a ++ b) (omega arith)) ∙ from_append 0 a b
      ∙ ap (onward (λ (m : ℕ). number_from m b)) (from_is 0 a (omega arith) ∙ number_some a some)

  pub number_append_some : (n : ℕ) → n < 2 ^ 64 → Some n ≡ number a → read_on n b ≡ number (a ++ b)
  number_append_some n h e = sym (from_is n b h) ∙ ap (onward (λ (m : ℕ). number_from m b)) e ∙ sym number_append

  pub number_append_none : None ≡ number a → number (a ++ b) ≡ None
  number_append_none e = number_append ∙ ap (onward (λ (m : ℕ). number_from m b)) (sym e)

-- at a place of the text
module _ (n : ℕ) (s : List ℕ) (i : ℕ) where
  pub from_next : (m : ℕ) → i < length s → digit_after n (get_or s i 0) ≡ Some m → number_from n (drop i s) ≡ number_from m (drop (i + 1) s)
  unfolding number_from
  from_next m h e = rw (add-one i, drop-cons s i 0 h, e)

  pub from_stop : i < length s → digit_after n (get_or s i 0) ≡ None → number_from n (drop i s) ≡ None
  unfolding number_from
  from_stop h e = rw (drop-cons s i 0 h, e)

  pub from_end : length s ≤ i → number_from n (drop i s) ≡ Some n
  unfolding number_from
  from_end h = rw (drop_of_length-le s h)

-- ---- so many digits at the front of a text

pub front_take : (p : ℕ → Bool) (s : List ℕ) (n : ℕ) → n ≤ front p s → front p (take n s) ≡ n
unfolding front
front_take p s zero h = refl
front_take p [] (suc n) h = absurd (not-suc-le-zero h)
front_take p (b ∷ bs) (suc n) h =
    either (p b) (λ e. rw e (ap suc (front_take p bs n (le_of_suc-le-suc (rw e at h))))) (λ e. absurd (not-suc-le-zero (rw e at h)))

-- n digits are below the n-th power of ten
pub decimal_below : (s : List ℕ) (n : ℕ) → n ≤ front digit s → decimal 0 (take n s) < 10 ^ n
unfolding decimal
decimal_below s zero h = omega arith
decimal_below s (suc n) h =
    let b = get_or s n 0 in
    let e : decimal 0 (take (suc n) s) ≡ decimal 0 (take n s) * 10 + (b - 48) = rw (← add-one n) (decimal_next s n (omega (arith, front_le digit s))) in
    let t : 10 ^ suc n ≡ 10 ^ n * 10 = rw (← add-one n) (ten_next n) in
    let r = digit_range b (front_passes digit s n (omega arith)) in
    omega (arith, e, t, r, decimal_below s n (omega arith))

-- they are a number, where it is below 2 ^ 64
pub digits_any : (s : List ℕ) (n : ℕ) → (n ≡ 0 → ⊥) → n ≤ front digit s
    → number (take n s) ≡ cond (ltb (decimal 0 (take n s)) (2 ^ 64)) (Some (decimal 0 (take n s))) None
unfolding number
digits_any s n some h =
    let l : length (take n s) ≡ n = length-take-le n s (omega (arith, front_le digit s)) in
    rw (l, front_take digit s n h, lt-ltb 0 n (omega arith), eq-eqb n n refl)

-- digits and nothing else are a number, where it is below 2 ^ 64
pub digits_whole : (s : List ℕ) → (length s ≡ 0 → ⊥) → front digit s ≡ length s
    → number s ≡ cond (ltb (decimal 0 s) (2 ^ 64)) (Some (decimal 0 s)) None
unfolding number
digits_whole s some e = rw (lt-ltb 0 (length s) (omega (arith, some)), eq-eqb (front digit s) (length s) e)

-- so 19 of them are
pub digits_number : (s : List ℕ) (n : ℕ) → (n ≡ 0 → ⊥) → n ≤ 19 → n ≤ front digit s → number (take n s) ≡ Some (decimal 0 (take n s))
digits_number s n some few h =
    let d : decimal 0 (take n s) < 2 ^ 64 = omega (arith, decimal_below s n h, ten_le 19 few) in
    rw (lt-ltb (decimal 0 (take n s)) (2 ^ 64) d) at (digits_any s n some h)

-- what was found of a number that may be too large
pub found_is : (d v : ℕ) → Some v ≡ cond (ltb d (2 ^ 64)) (Some d) None → v ≡ d
found_is d v e = sym (cond_some (ltb d (2 ^ 64)) d v (sym e)).1

pub none_large : (d : ℕ) → None ≡ cond (ltb d (2 ^ 64)) (Some d) None → 2 ^ 64 ≤ d
none_large d e =
    either (ltb d (2 ^ 64))
    (λ t. let y : None ≡ Some d = rw t at e in cc)
    (λ t. ltb-false d (2 ^ 64) t)
