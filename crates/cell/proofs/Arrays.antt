-- Whether an array ends inside the heap, by how many items there is room for.
-- Assumes nothing.
use Prim.Native.Nat.{ℕ, ◌+◌, ◌-◌, ◌*◌, ◌/◌, ◌≤◌, ◌<◌}
use native.Mathlib.Nat.{div-lt_iff_lt-mul, le-div_iff_mul-le}
use native.Mathlib.Omega.{arith}

module _ (theap end o n w : ℕ) (pos : 1 ≤ w) where
  pub too_many : (end - theap - o) / w < n → end < theap + o + n * w
  too_many h = omega (arith, (div-lt_iff_lt-mul pos).0 h)

  pub enough : theap ≤ end → o ≤ end - theap → n ≤ (end - theap - o) / w → theap + o + n * w ≤ end
  enough t s h = omega (arith, t, s, (le-div_iff_mul-le pos).0 h)
