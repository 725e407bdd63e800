-- The number that digits say: one digit more, and its bound by a power of ten.
-- Assumes nothing.
use mathlib.Core.Path.{◌≡◌, refl}
use mathlib.Core.List.{List, [], ◌∷◌, ◌++◌}
use mathlib.Core.Bool.{true}
use Prim.Native.Nat.{ℕ, ◌+◌, ◌-◌, ◌*◌, ◌^◌, ◌≤◌, ◌<◌}
use native.Mathlib.Nat.{pow-suc, pow-le-pow_right}
use native.Mathlib.Numerals.{add-one}
use lib.ListN.{length, take, get_or}
use lib.Seq.{take-suc}
use lib.Dec.{lit<, leb}
use borrow.Author.Tests.{leb-true, le-leb}
use Rattle.ascii.specs.Text.{decimal, digit}
use Rattle.ascii.proofs.Cases.{both}

-- one digit more
pub snoc : (n : ℕ) (xs : List ℕ) (x : ℕ) → decimal n (xs ++ (x ∷ [])) ≡ decimal n xs * 10 + (x - 48)
unfolding decimal
snoc n [] x = refl
snoc n (b ∷ bs) x = snoc (n * 10 + (b - 48)) bs x

pub decimal_next : (s : List ℕ) (i : ℕ) → i < length s → decimal 0 (take (i + 1) s) ≡ decimal 0 (take i s) * 10 + (get_or s i 0 - 48)
decimal_next s i h = rw (add-one, take-suc s i 0 h) (snoc 0 (take i s) (get_or s i 0))

pub ten_next : (i : ℕ) → 10 ^ (i + 1) ≡ 10 ^ i * 10
ten_next i = rw add-one (pow-suc 10 i)

pub ten_le : {i : ℕ} (j : ℕ) → i ≤ j → 10 ^ i ≤ 10 ^ j
ten_le j h = pow-le-pow_right (lit< tt) h

-- a digit is 48 to 57
pub digit_range : (b : ℕ) → digit b ≡ true → (48 ≤ b) × (b ≤ 57)
digit_range b e = let h = both (leb 48 b) (leb b 57) e in (leb-true 48 b h.0, leb-true b 57 h.1)

pub digit_yes : (b : ℕ) → 48 ≤ b → b ≤ 57 → digit b ≡ true
digit_yes b h l = rw (le-leb 48 b h, le-leb b 57 l)
