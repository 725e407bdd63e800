-- The number of k bytes: its parts and how large it is, by laws over k, and that that of eight is std's.
-- Assumes nothing.
use Prim.Native.Nat.{ℕ, zero, suc, ◌+◌, ◌*◌, ◌/◌, ◌%◌, ◌^◌, ◌<◌}
use mathlib.Core.Path.{◌≡◌, ◌∙◌}
use mathlib.Core.List.{List}
use native.Mathlib.Nat.{add-zero, add_assoc, add-suc, mul_assoc, pow-suc, one-le-pow}
use native.Mathlib.Nat.{mul-add-div_right, mul-add-mod_self_right, div-eq_of_lt, mod-eq_of_lt}
use native.Mathlib.Omega.{arith}
use lib.ListN.{get_or}
use Rattle.cell.specs.Item.{word}
use Rattle.std.specs.Int.{w64, from_be_bytes}

-- the k bytes are those of the area from place p on
abbrev pub AreBytesAt : List ℕ → ℕ → List ℕ → ℕ → Type 0
AreBytesAt bytes k a p = (i : ℕ) → i < k → get_or bytes i 0 ≡ get_or a (p + i) 0

module _ (a : List ℕ) where
  -- j bytes and k more
  pub word_parts : (p j k : ℕ) → word a p (j + k) ≡ word a p j * 256 ^ k + word a (p + j) k
  unfolding word
  word_parts p j zero = rw (add-zero j) (omega arith)
  word_parts p j (suc k) =
      rw (add-suc j k, pow-suc 256 k, ← mul_assoc (word a p j) (256 ^ k) 256, add_assoc p j k)
      (omega (arith, word_parts p j k))

  -- the number of eight bytes is std's
  pub word_of_8 : (bs : List ℕ) (p : ℕ) → AreBytesAt bs 8 a p → from_be_bytes w64 bs ≡ word a p 8
  unfolding word
  word_of_8 bs p h =
      omega (
        arith,
        h 0 (omega arith),
        h 1 (omega arith),
        h 2 (omega arith),
        h 3 (omega arith),
        h 4 (omega arith),
        h 5 (omega arith),
        h 6 (omega arith),
        h 7 (omega arith),
      )

  module _ (below : (i : ℕ) → get_or a i 0 < 256) where
    pub word_below : (p k : ℕ) → word a p k < 256 ^ k
    unfolding word
    word_below p zero = omega arith
    word_below p (suc k) = rw (pow-suc 256 k) (omega (arith, word_below p k, below (p + k)))

    -- the upper and the lower ones of j + k bytes
    module _ (p j k : ℕ) {x : ℕ} (h : x ≡ word a p (j + k)) where
      x_parts : x ≡ word a p j * 256 ^ k + word a (p + j) k
      x_parts = h ∙ word_parts p j k

      pub upper : x / 256 ^ k ≡ word a p j
      upper =
          rw (x_parts, mul-add-div_right (one-le-pow k 256 (omega arith)) (word a p j) (word a (p + j) k))
          (rw (div-eq_of_lt (word_below (p + j) k)) (add-zero (word a p j)))

      pub lower : x % 256 ^ k ≡ word a (p + j) k
      lower =
          rw (x_parts, mul-add-mod_self_right (word a p j) (256 ^ k) (word a (p + j) k))
          (mod-eq_of_lt (word_below (p + j) k))
