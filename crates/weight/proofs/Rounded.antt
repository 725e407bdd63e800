-- A rounded fraction lies within half, equal fractions are rounded to the same number, and one below a half to 0.
-- Assumes nothing.
use Prim.Native.Nat.{ℕ, ◌+◌, ◌*◌, ◌/◌, ◌%◌, ◌≤◌, ◌<◌}
use native.Mathlib.Omega.{arith}
use native.Mathlib.Nat.{div-add-mod', mod-lt, mod-eq_of_lt, div-eq_of_lt, div-le_self}
use native.Mathlib.Nat.{mul-lt-mul_of_pos_right, mul-le-mul_right}
use mathlib.Core.Path.{◌≡◌, sym, ◌∙◌}
use lib.Dec.{ltb}
use lib.Ieee.Nearest.{div_same}
use borrow.Author.Tests.{ltb-true, ltb-false, lt-ltb, le-ltb}
use Rattle.ascii.proofs.Cases.{either, by_test}
use Rattle.weight.specs.declared.Edition.{Edition}
use Rattle.weight.specs.declared.Edition.TheVariants.{One, Two}
use Rattle.weight.specs.Weight.{halfway, rounded}

-- q is within half of a / b
pub record Near (a b q : ℕ) : Type 0 where
  pub high : q * b * 2 ≤ a * 2 + b
  pub low : a * 2 ≤ q * b * 2 + b

-- a number halfway goes to one of its neighbours
halfway_range : (ed : Edition) (q : ℕ) → (q ≤ halfway ed q) × (halfway ed q ≤ q + 1)
halfway_range One q = (omega arith, omega arith)
halfway_range Two q = (omega arith, omega arith)

-- within half of n times b and r more
near_at : (n b r a q : ℕ) → n * b + r ≡ a → r * 2 ≡ b → n ≤ q → q ≤ n + 1 → Near a b q
near_at n b r a q e tie l h =
    let x : n * b ≤ q * b = mul-le-mul_right b l in
    let y : q * b ≤ (n + 1) * b = mul-le-mul_right b h in
    record { high = omega arith; low = omega arith }

pub rounded_near : (ed : Edition) (a b : ℕ) → 0 < b → Near a b (rounded ed a b)
unfolding rounded
rounded_near ed a b h =
    let e : a / b * b + a % b ≡ a = div-add-mod' a b in
    let s : a % b < b = mod-lt a h in
    by_test (Near a b) (ltb (a % b * 2) b)
    (λ t. record { high = omega arith; low = omega (arith, ltb-true (a % b * 2) b t) })
    (λ t. by_test (Near a b) (ltb b (a % b * 2))
    (λ u. record { high = omega (arith, ltb-true b (a % b * 2) u); low = omega arith })
    (λ u. let r = halfway_range ed (a / b) in
    let tie : a % b * 2 ≡ b = omega (arith, ltb-false (a % b * 2) b t, ltb-false b (a % b * 2) u) in
    near_at (a / b) b (a % b) a (halfway ed (a / b)) e tie r.0 r.1))

-- it is at most one above the whole part
pub rounded_most : (ed : Edition) (a b : ℕ) → rounded ed a b ≤ a + 1
unfolding rounded
rounded_most ed a b =
    let d : a / b ≤ a = div-le_self a b in
    let h = (halfway_range ed (a / b)).1 in
    by_test (λ (n : ℕ). n ≤ a + 1) (ltb (a % b * 2) b) (λ t. omega arith)
    (λ t. by_test (λ (n : ℕ). n ≤ a + 1) (ltb b (a % b * 2)) (λ u. omega arith) (λ u. omega arith))

-- both sides of a test times a number above 0
test_times : (x y k : ℕ) → 0 < k → ltb x y ≡ ltb (x * k) (y * k)
test_times x y k h =
    either (ltb x y)
    (λ t. t ∙ sym (lt-ltb (x * k) (y * k) (mul-lt-mul_of_pos_right (ltb-true x y t) h)))
    (λ t. t ∙ sym (le-ltb (x * k) (y * k) (mul-le-mul_right k (ltb-false x y t))))

-- equal fractions
pub rounded_same : (ed : Edition) (a b c d : ℕ) → 0 < b → 0 < d → a * d ≡ c * b → rounded ed a b ≡ rounded ed c d
unfolding rounded
rounded_same ed a b c d B D e =
    let q : a / b ≡ c / d = div_same a b c d B D e in
    let x : a / b * b + a % b ≡ a = div-add-mod' a b in
    let y : c / d * d + c % d ≡ c = div-add-mod' c d in
    let s : (c / d * b + a % b) * d ≡ (c / d * d + c % d) * b = rw (← q, x, q, y) e in
    let r : a % b * 2 * d ≡ c % d * 2 * b = omega arith in
    let m : b * d ≡ d * b = omega arith in
    let below : ltb (a % b * 2) b ≡ ltb (c % d * 2) d =
    test_times (a % b * 2) b d D ∙ rw (r, m) (sym (test_times (c % d * 2) d b B)) in
    let above : ltb b (a % b * 2) ≡ ltb d (c % d * 2) =
    test_times b (a % b * 2) d D ∙ rw (r, m) (sym (test_times d (c % d * 2) b B)) in
    rw (below, above, q)

-- a fraction below a half
pub rounded_none : (ed : Edition) (a b : ℕ) → a * 2 < b → rounded ed a b ≡ 0
unfolding rounded
rounded_none ed a b h =
    let m : a % b ≡ a = mod-eq_of_lt (omega arith) in
    rw (m, lt-ltb (a * 2) b h) (div-eq_of_lt (omega arith))

-- a whole number
pub rounded_whole : (ed : Edition) (a : ℕ) → rounded ed a 1 ≡ a
unfolding rounded
rounded_whole ed a = let m : a % 1 ≡ 0 = omega arith in rw m (omega arith)
