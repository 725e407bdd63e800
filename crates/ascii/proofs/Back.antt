-- The decimal text of a number is read back as that number.
-- Assumes nothing.
use Prim.Native.Nat.{ℕ, zero, suc, ◌+◌, ◌*◌, ◌/◌, ◌%◌, ◌^◌, ◌<◌}
use mathlib.Core.Path.{◌≡◌, ◌∙◌}
use mathlib.Core.List.{List}
use native.Mathlib.Omega.{arith}
use native.Mathlib.Numerals.{add-one}
use lib.Dec.{ltb}
use Rattle.ascii.specs.Text.{decimal}
use Rattle.ascii.proofs.Cases.{by_test}
use Rattle.ascii.proofs.Decimal.{snoc, ten_next}
use Rattle.ascii.specs.Number.{decimal_in}

pub decimal_back : (k n : ℕ) → n < 10 ^ k → decimal 0 (decimal_in k n) ≡ n
unfolding decimal decimal_in
decimal_back zero n h = omega (arith, h)
decimal_back (suc k) n h =
    by_test (λ (s : List ℕ). decimal 0 s ≡ n) (ltb n 10)
    (λ t. omega arith)
    (λ t.
    let e : 10 ^ suc k ≡ 10 ^ k * 10 = rw (← add-one k) (ten_next k) in
    let q : n / 10 < 10 ^ k = omega (arith, h, e) in
    snoc 0 (decimal_in k (n / 10)) (48 + n % 10) ∙ rw (decimal_back k (n / 10) q) (omega arith))
