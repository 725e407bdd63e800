-- Bytes that are read the lowest first and then put the other way round, as a machine whose numbers begin with the lowest byte does
-- it, are the number that they say.
-- Assumes nothing.
use Prim.Native.Nat.{ℕ, zero, suc, ◌+◌, ◌*◌, ◌/◌, ◌%◌, ◌^◌, ◌<◌}
use mathlib.Core.Path.{◌≡◌, refl, sym, ap₂, ◌∙◌}
use mathlib.Core.List.{List}
use native.Mathlib.Nat.{add-zero, add_comm}
use native.Mathlib.Numerals.{add-one}
use native.Mathlib.Omega.{arith}
use lib.ListN.{get_or}
use Rattle.cell.specs.Item.{word}
use Rattle.cell.proofs.Numbers.{word_parts}

-- the number that the k bytes from place p on hold, the lowest byte first
unfoldable pub little : List ℕ → ℕ → ℕ → ℕ
little a p zero = 0
little a p (suc k) = get_or a p 0 + 256 * little a (p + 1) k

-- the number that the k lowest bytes of x make the other way round
unfoldable pub swapped : ℕ → ℕ → ℕ
swapped zero x = 0
swapped (suc k) x = x % 256 * 256 ^ k + swapped k (x / 256)

low : (b y : ℕ) → b < 256 → (b + 256 * y) % 256 ≡ b
low b y h = omega arith

high : (b y : ℕ) → b < 256 → (b + 256 * y) / 256 ≡ y
high b y h = omega arith

module _ (a : List ℕ) where
  word_one : (p : ℕ) → word a p 1 ≡ get_or a p 0
  unfolding word
  word_one p = rw add-zero (omega arith)

  word_front : (p k : ℕ) → word a p (suc k) ≡ get_or a p 0 * 256 ^ k + word a (p + 1) k
  word_front p k = rw (← add-one k, add_comm k 1, word_parts a p 1 k, word_one p)

  module _ (below : (i : ℕ) → get_or a i 0 < 256) where
    pub swapped_little : (p k : ℕ) → swapped k (little a p k) ≡ word a p k
    unfolding word little swapped
    swapped_little p zero = refl
    swapped_little p (suc k) =
        ap₂ (λ (x y : ℕ). x * 256 ^ k + swapped k y) (low _ (little a (p + 1) k) (below p)) (high _ _ (below p))
        ∙ rw (swapped_little (p + 1) k) (sym (word_front p k))
