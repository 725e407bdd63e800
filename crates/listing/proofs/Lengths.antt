-- The lengths of signed numbers and of bits as text.
-- Assumes nothing.
use Prim.Native.Nat.{ℕ, zero, suc, ◌/◌, ◌≤◌}
use mathlib.Core.Path.{◌≡◌, refl}
use native.Mathlib.Omega.{arith}
use lib.ListN.{length, length-append}
use lib.IntN.{ℤ, pos, negsuc}
use Rattle.ascii.proofs.Lengths.{decimal_length}
use Rattle.listing.specs.Text.{signed_text, hex_text}

pub signed_length : (z : ℤ) → length (signed_text z) ≤ 21
signed_length (pos n) = omega (arith, decimal_length n)
signed_length (negsuc n) = omega (arith, decimal_length (suc n))

pub hex_length : (k n : ℕ) → length (hex_text k n) ≡ k
unfolding hex_text
hex_length zero n = refl
hex_length (suc k) n = simp length-append (omega (arith, hex_length k (n / 16)))
