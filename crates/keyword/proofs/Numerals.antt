-- Laws of `numeral`: which lists are numerals of 1 to 999, and what number each says.
-- Assumes nothing.
use Rattle.std.specs.Prelude.{Some, None}
use mathlib.Core.Path.{◌≡◌, refl, sym, ap, subst, ◌∙◌}
use mathlib.Core.Bool.{Bool, true, false, cond, ◌&&◌, and-true}
use mathlib.Core.List.{List, [], ◌∷◌, ◌++◌, map, map-append}
use Prim.Native.Nat.{ℕ, zero, suc, ◌+◌, ◌-◌, ◌*◌, ◌/◌, ◌%◌, ◌^◌, ◌<◌, ◌≤◌}
use native.Mathlib.Omega.{arith}
use lib.ListN.{length, take, get_or, length-map}
use lib.Dec.{eqb, ltb}
use Rattle.std.specs.Cmp.Lexicographic.{pointwise}
use borrow.Author.Tests.{eq-eqb, eqb-true, eqb-false, lt-ltb, le-ltb, ltb-true, ltb-false}
use Rattle.ascii.specs.Text.{front, digit, decimal}
use Rattle.ascii.specs.Number.{number}
use Rattle.ascii.proofs.Cases.{either, both}
use Rattle.ascii.proofs.Decimal.{digit_range, digit_yes}
use Rattle.ascii.proofs.Front.{front_passes}
use Rattle.keyword.specs.Names.{range, numeral, position, index_limit}
use Rattle.keyword.proofs.Position.{position_at, position_no, position_value, position_front, below, range_append, length_range}

-- a digit
abbrev pub Digit : ℕ → Type 0
Digit d = (48 ≤ d) × (d ≤ 57)

-- 1 to 3 digits, of which the first is not 0
pub record Numeral (s : List ℕ) : Type 0 where
  pub some : 1 ≤ length s
  pub few : length s ≤ 3
  pub digits : (i : ℕ) → i < length s → Digit (get_or s i 0)
  pub first : get_or s 0 0 ≡ 48 → ⊥

one : (a : ℕ) → Digit a → (a ≡ 48 → ⊥) → Numeral (a ∷ [])
one a d h = record { some = omega arith; few = omega arith; digits = at; first = h }
  where
    at : (i : ℕ) → i < 1 → Digit (get_or (a ∷ []) i 0)
    at zero p = d
    at (suc i) p = absurd (omega arith)

two : (a b : ℕ) → Digit a → Digit b → (a ≡ 48 → ⊥) → Numeral (a ∷ b ∷ [])
two a b d e h = record { some = omega arith; few = omega arith; digits = at; first = h }
  where
    at : (i : ℕ) → i < 2 → Digit (get_or (a ∷ b ∷ []) i 0)
    at zero p = d
    at (suc zero) p = e
    at (suc (suc i)) p = absurd (omega arith)

three : (a b c : ℕ) → Digit a → Digit b → Digit c → (a ≡ 48 → ⊥) → Numeral (a ∷ b ∷ c ∷ [])
three a b c d e f h = record { some = omega arith; few = omega arith; digits = at; first = h }
  where
    at : (i : ℕ) → i < 3 → Digit (get_or (a ∷ b ∷ c ∷ []) i 0)
    at zero p = d
    at (suc zero) p = e
    at (suc (suc zero)) p = f
    at (suc (suc (suc i))) p = absurd (omega arith)

-- what holds of the three lengths holds of every numeral below 1,000
module _ (P : List ℕ → Type 0) (n : ℕ) (below : n < 1000) where
  by_length : (n < 10 → P ((48 + n) ∷ [])) → (10 ≤ n → n < 100 → P ((48 + n / 10) ∷ (48 + n % 10) ∷ []))
      → (100 ≤ n → P ((48 + n / 100) ∷ (48 + n / 10 % 10) ∷ (48 + n % 10) ∷ [])) → P (numeral n)
  unfolding numeral
  by_length f g h = short (ltb n 10) (ltb n 100) refl refl
    where
      short : (s t : Bool) → ltb n 10 ≡ s → ltb n 100 ≡ t
          → P (cond s ((48 + n) ∷ []) (cond t ((48 + n / 10) ∷ (48 + n % 10) ∷ []) ((48 + n / 100) ∷ (48 + n / 10 % 10) ∷ (48 + n % 10) ∷ [])))
      short true t p q = f (ltb-true n 10 p)
      short false true p q = g (ltb-false n 10 p) (ltb-true n 100 q)
      short false false p q = h (ltb-false n 100 q)

pub numeral_is : (n : ℕ) → 1 ≤ n → n < 1000 → Numeral (numeral n)
numeral_is n p q =
    by_length Numeral n q (λ r. one (48 + n) (omega arith) (λ e. omega arith))
    (λ r t. two (48 + n / 10) (48 + n % 10) (omega arith) (omega arith) (λ e. omega arith))
    (λ r. three (48 + n / 100) (48 + n / 10 % 10) (48 + n % 10) (omega arith) (omega arith) (omega arith) (λ e. omega arith))

pub value_numeral : (n : ℕ) → n < 1000 → decimal 0 (numeral n) ≡ n
unfolding decimal
value_numeral n q = by_length (λ s. decimal 0 s ≡ n) n q (λ r. omega arith) (λ r t. omega arith) (λ r. omega arith)

-- what a numeral says, and that it is the numeral of what it says
pub record Says (s : List ℕ) : Type 0 where
  pub least : 1 ≤ decimal 0 s
  pub most : decimal 0 s < 1000
  pub again : numeral (decimal 0 s) ≡ s

middle : (k b : ℕ) → Digit b → 48 + (k * 10 + (b - 48)) % 10 ≡ b
middle k b e = omega arith

pub numeral_says : (s : List ℕ) → Numeral s → Says s
unfolding numeral decimal
numeral_says [] h = absurd (omega arith)
numeral_says (a ∷ []) h =
    let d = h.digits 0 (omega arith) in
    let f : a ≡ 48 → ⊥ = h.first in
    let v : ℕ = decimal 0 (a ∷ []) in
    let p : 48 + v ≡ a = omega arith in
    record { least = omega arith; most = omega arith; again = rw (lt-ltb v 10 (omega arith), p) }
numeral_says (a ∷ b ∷ []) h =
    let d = h.digits 0 (omega arith) in
    let e = h.digits 1 (omega arith) in
    let f : a ≡ 48 → ⊥ = h.first in
    let v : ℕ = decimal 0 (a ∷ b ∷ []) in
    let p : 48 + v / 10 ≡ a = omega arith in
    let q : 48 + v % 10 ≡ b = omega arith in
    record { least = omega arith; most = omega arith; again = rw (le-ltb v 10 (omega arith), lt-ltb v 100 (omega arith), p, q) }
numeral_says (a ∷ b ∷ c ∷ []) h =
    let d = h.digits 0 (omega arith) in
    let e = h.digits 1 (omega arith) in
    let g = h.digits 2 (omega arith) in
    let f : a ≡ 48 → ⊥ = h.first in
    let v : ℕ = decimal 0 (a ∷ b ∷ c ∷ []) in
    let p : 48 + v / 100 ≡ a = omega arith in
    let m : v / 10 ≡ (a - 48) * 10 + (b - 48) = omega arith in
    let q : 48 + v / 10 % 10 ≡ b = rw m (middle (a - 48) b e) in
    let r : 48 + v % 10 ≡ c = omega arith in
    record { least = omega arith; most = omega arith; again = rw (le-ltb v 10 (omega arith), le-ltb v 100 (omega arith), p, q, r) }
numeral_says (a ∷ b ∷ c ∷ d ∷ s) h = absurd (omega arith)

-- the numerals of 1 to 999 are distinct
pub numeral_injective : (m n : ℕ) → m < 1000 → n < 1000 → numeral m ≡ numeral n → m ≡ n
numeral_injective m n p q e = sym (value_numeral m p) ∙ ap (decimal 0) e ∙ value_numeral n q

pub index_at : (n : ℕ) → 1 ≤ n → n ≤ index_limit → position (numeral n) (map numeral (range 1 index_limit)) ≡ Some (n - 1)
index_at n p q = position_value numeral n 1 index_limit (λ k u v. numeral_injective n k (omega arith) (omega arith)) p (omega arith)

pub index_of : (s : List ℕ) → Numeral s → position s (map numeral (range 1 index_limit)) ≡ Some (decimal 0 s - 1)
index_of s h =
    let t = numeral_says s h in
    subst (λ (l : List ℕ). position l (map numeral (range 1 index_limit)) ≡ Some (decimal 0 s - 1)) t.again
    (index_at (decimal 0 s) t.least (omega (arith, t.most)))

pub index_none : (s : List ℕ) → (Numeral s → ⊥) → position s (map numeral (range 1 index_limit)) ≡ None
index_none s h = position_no s numeral 1 index_limit (λ k p q e. h (subst Numeral (sym e) (numeral_is k p q)))

pub index_below : (s : List ℕ) (k : ℕ) → position s (map numeral (range 1 index_limit)) ≡ Some k → k < index_limit
index_below s k h =
    subst (λ (l : ℕ). k < l) (length-map (range 1 index_limit) numeral ∙ length_range 1 index_limit)
    (position_at s (map numeral (range 1 index_limit)) k h).0

-- among the first numerals
pub index_front : (s : List ℕ) (count : ℕ) → count ≤ index_limit → position s (map numeral (range 1 count)) ≡ below count (position s (map numeral (range 1 index_limit)))
index_front s count h =
    let m = map numeral (range 1 count) in let t = map numeral (range (1 + count) (index_limit - count)) in
    let l : length m ≡ count = length-map (range 1 count) numeral ∙ length_range 1 count in
    let e : map numeral (range 1 index_limit) ≡ m ++ t =
    ap (λ (k : ℕ). map numeral (range 1 k)) (omega arith) ∙ ap (map numeral) (range_append 1 count (index_limit - count)) ∙ map-append numeral (range 1 count) _ in
    position_front s m t ∙ rw (l, ← e)

-- numerals beside what is read as a number
module _ (s : List ℕ) where
  all_digits : (s : List ℕ) → ((i : ℕ) → i < length s → Digit (get_or s i 0)) → front digit s ≡ length s
  unfolding front
  all_digits [] h = refl
  all_digits (b ∷ bs) h =
      let d = h 0 (omega arith) in
      rw (digit_yes b d.0 d.1, all_digits bs (λ i p. h (suc i) (omega arith)))

  numeral_number : Numeral s → number s ≡ Some (decimal 0 s)
  unfolding number
  numeral_number h =
      rw (
        lt-ltb 0 (length s) (omega (arith, h.some)),
        eq-eqb (front digit s) (length s) (all_digits s h.digits),
        lt-ltb (decimal 0 s) (2 ^ 64) (omega (arith, (numeral_says s h).most)),
      )

  pub no_number : None ≡ number s → position s (map numeral (range 1 index_limit)) ≡ None
  no_number e =
      index_none s (λ h. let y : None ≡ Some (decimal 0 s) = e ∙ numeral_number h in cc)

  pub too_long : 3 < length s → position s (map numeral (range 1 index_limit)) ≡ None
  too_long l = index_none s (λ h. absurd (omega (arith, h.few)))

  -- the test for a zero in front
  zero_first : pointwise eqb (48 ∷ []) (take 1 s) ≡ eqb 48 (get_or s 0 0)
  zero_first = by s
    where
      by : (s : List ℕ) → pointwise eqb (48 ∷ []) (take 1 s) ≡ eqb 48 (get_or s 0 0)
      by [] = refl
      by (b ∷ bs) = and-true (eqb 48 b)

  pub leading_zero : pointwise eqb (48 ∷ []) (take 1 s) ≡ true → position s (map numeral (range 1 index_limit)) ≡ None
  leading_zero t = index_none s (λ h. h.first (sym (eqb-true 48 (get_or s 0 0) (sym zero_first ∙ t))))

  -- a number that is read, as a numeral
  pub record Index (n : ℕ) : Type 0 where
    pub least : 1 ≤ n
    pub place : Some (n - 1) ≡ position s (map numeral (range 1 index_limit))

  pub number_read : (n : ℕ) → Some n ≡ number s → length s ≤ 3 → pointwise eqb (48 ∷ []) (take 1 s) ≡ false → Index n
  unfolding number
  number_read n e few other =
      either (ltb 0 (length s))
      (λ l. either (eqb (front digit s) (length s) && ltb (decimal 0 s) (2 ^ 64))
      (λ t.
      let y : Some n ≡ Some (decimal 0 s) = rw (l, t) at e in
      let is : n ≡ decimal 0 s = cc in
      let some = ltb-true 0 (length s) l in
      let all : front digit s ≡ length s = eqb-true (front digit s) (length s) (both _ _ t).0 in
      let h : Numeral s = record {
        some = omega arith;
        few = few;
        digits = λ i p. digit_range (get_or s i 0) (front_passes digit s i (omega arith));
        first = λ z. eqb-false 48 (get_or s 0 0) (sym zero_first ∙ other) (sym z);
      } in
      record {
        least = omega (arith, is, (numeral_says s h).least);
        place = ap (λ (v : ℕ). Some (v - 1)) is ∙ sym (index_of s h);
      })
      (λ t. let y : Some n ≡ None = rw (l, t) at e in cc))
      (λ l. let y : Some n ≡ None = rw l at e in cc)
