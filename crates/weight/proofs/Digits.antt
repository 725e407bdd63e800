-- How many digits a number has, by the powers of ten about it.
-- Assumes nothing.
use Prim.Native.Nat.{ℕ, zero, suc, ◌+◌, ◌*◌, ◌/◌, ◌%◌, ◌^◌, ◌≤◌, ◌<◌}
use native.Mathlib.Omega.{arith}
use native.Mathlib.Nat.{pow-suc, one-le-pow}
use mathlib.Core.Path.{◌≡◌}
use mathlib.Core.List.{List, [], ◌∷◌, ◌++◌}
use lib.ListN.{length, get_or, length-append}
use lib.Dec.{ltb, lit<}
use borrow.Author.Tests.{lt-ltb, le-ltb, ltb-true, ltb-false}
use Rattle.ascii.specs.Number.{decimal_in}
use Rattle.ascii.proofs.Cases.{either, by_test}
use Rattle.ascii.proofs.Lengths.{few_digits}

-- with k + 1 digits or more allowed, a number below 10 ^ (k + 1) has the same text
pub decimal_enough : (k j n : ℕ) → n < 10 ^ suc k → k ≤ j → decimal_in (suc j) n ≡ decimal_in (suc k) n
unfolding decimal_in
decimal_enough zero j n h l = rw (lt-ltb n 10 (omega arith))
decimal_enough (suc k) zero n h l = absurd (omega arith)
decimal_enough (suc k) (suc j) n h l =
    let e : 10 ^ suc (suc k) ≡ 10 ^ suc k * 10 = pow-suc 10 (suc k) in
    either (ltb n 10) (λ t. rw t) (λ t. rw (t, decimal_enough k j (n / 10) (omega arith) (omega arith)))

-- one digit or more
pub some_digit : (k n : ℕ) → 0 < length (decimal_in (suc k) n)
unfolding decimal_in
some_digit k n =
    by_test (λ (s : List ℕ). 0 < length s) (ltb n 10) (λ t. omega arith) (λ t. simp length-append (omega arith))

-- the first digit of a number above 0 is above 0
first_kept : (xs ys : List ℕ) → 48 < get_or xs 0 48 → 48 < get_or (xs ++ ys) 0 48
first_kept [] ys h = absurd (omega arith)
first_kept (x ∷ xs) ys h = h

first_digit : (k n : ℕ) → 0 < n → n < 10 ^ k → 48 < get_or (decimal_in k n) 0 48
unfolding decimal_in
first_digit zero n p h = absurd (omega arith)
first_digit (suc k) n p h =
    let e : 10 ^ suc k ≡ 10 ^ k * 10 = pow-suc 10 k in
    by_test (λ (s : List ℕ). 48 < get_or s 0 48) (ltb n 10)
    (λ t. omega arith)
    (λ t. let big = ltb-false n 10 t in
    first_kept (decimal_in k (n / 10)) ((48 + n % 10) ∷ [])
    (first_digit k (n / 10) (omega arith) (omega (arith, e))))

-- so no zero stands in front of others
pub no_zero : (k n : ℕ) → n < 10 ^ suc k → 1 < length (decimal_in (suc k) n) → 48 < get_or (decimal_in (suc k) n) 0 48
no_zero k n h long =
    either (ltb n 10)
    (λ t. absurd (omega (arith, few_digits (suc k) 1 n (omega (arith, ltb-true n 10 t)) (omega arith))))
    (λ t. first_digit (suc k) n (omega (arith, ltb-false n 10 t)) h)

-- more than j digits, where as many are allowed
pub digits_least : (j k n : ℕ) → 10 ^ j ≤ n → j < k → j < length (decimal_in k n)
unfolding decimal_in
digits_least j zero n h l = absurd (omega arith)
digits_least zero (suc k) n h l = some_digit k n
digits_least (suc j) (suc k) n h l =
    let e : 10 ^ suc j ≡ 10 ^ j * 10 = pow-suc 10 j in
    let p : 1 ≤ 10 ^ j = one-le-pow j 10 (lit< tt) in
    let r = digits_least j k (n / 10) (omega arith) (omega arith) in
    rw (le-ltb n 10 (omega arith)) (simp length-append (omega arith))
