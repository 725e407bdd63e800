-- A value halfway between two numbers of units goes away from zero in edition 1 and to the even one in edition 2; any
-- other value goes to the nearest.
-- Assumes nothing.
use Prim.Native.Nat.{ℕ, zero, suc, ◌+◌, ◌-◌, ◌*◌, ◌%◌, ◌^◌, ◌<◌}
use mathlib.Core.Path.{◌≡◌, ap, ◌∙◌}
use mathlib.Core.Bool.{Bool}
use native.Mathlib.Omega.{arith}
use native.Mathlib.Numerals.{lt_of_le_of_ne}
use lib.IntN.{ℤ}
use lib.Ieee.{fin, up, down}
use lib.Ieee.Fits.{down_pos}
use borrow.Author.Tests.{le-ltb}
use Rattle.std.proofs.lemmas.Nat.{div-mul-add, mod-mul-add}
use Rattle.weight.specs.declared.Edition.{Edition}
use Rattle.weight.specs.declared.Edition.TheVariants.{One, Two}
use Rattle.weight.specs.Weight.{decimals, halfway, rounded, units_of, in_ten_places, units_text, weight_text}
use Rattle.weight.proofs.Rounded.{Near, rounded_near}

-- m * 2 ^ e is halfway between k and k + 1 units
abbrev pub Tie : Edition → ℕ → ℤ → ℕ → Type 0
Tie ed m e k = m * up e * 10 ^ decimals ed * 2 ≡ (k * 2 + 1) * down e

-- k times b and half of b
rounded_halfway : (ed : Edition) (k r b : ℕ) → 0 < b → r * 2 ≡ b → rounded ed (k * b + r) b ≡ halfway ed k
unfolding rounded
rounded_halfway ed k r b h tie =
    let small : r < b = omega arith in
    let one = le-ltb (r * 2) b (omega arith) in
    let two = le-ltb b (r * 2) (omega arith) in
    rw (mod-mul-add k b r small, div-mul-add k b r small, one, two)

rounded_tie : (ed : Edition) (a b k : ℕ) → 0 < b → a * 2 ≡ (k * 2 + 1) * b → rounded ed a b ≡ halfway ed k
rounded_tie ed a b k h tie =
    let e : a ≡ k * b + (a - k * b) = omega arith in
    ap (λ (n : ℕ). rounded ed n b) e ∙ rounded_halfway ed k (a - k * b) b h (omega arith)

units_tie : (ed : Edition) (m : ℕ) (e : ℤ) (k : ℕ) → Tie ed m e k → units_of ed m e ≡ halfway ed k
units_tie ed m e k tie = rounded_tie ed (m * up e * 10 ^ decimals ed) (down e) k (down_pos e) tie

pub tie_away : (m : ℕ) (e : ℤ) (k : ℕ) → Tie One m e k → units_of One m e ≡ k + 1
tie_away m e k tie = units_tie One m e k tie

pub tie_even : (m : ℕ) (e : ℤ) (k : ℕ) → Tie Two m e k → (units_of Two m e ≡ k + k % 2) × ((k + k % 2) % 2 ≡ 0)
tie_even m e k tie = (units_tie Two m e k tie, omega arith)

-- the text, whatever the sign
pub tie_away_text : (s : Bool) (m : ℕ) (e : ℤ) (k : ℕ) → Tie One m e k
    → weight_text One (fin s m e) ≡ in_ten_places (units_text One s (k + 1))
unfolding weight_text
tie_away_text s m e k tie = ap (λ (n : ℕ). in_ten_places (units_text One s n)) (tie_away m e k tie)

pub tie_even_text : (s : Bool) (m : ℕ) (e : ℤ) (k : ℕ) → Tie Two m e k
    → weight_text Two (fin s m e) ≡ in_ten_places (units_text Two s (k + k % 2))
unfolding weight_text
tie_even_text s m e k tie = ap (λ (n : ℕ). in_ten_places (units_text Two s n)) (tie_even m e k tie).0

-- q is less than half away from a / b
pub record Nearest (a b q : ℕ) : Type 0 where
  pub high : q * b * 2 < a * 2 + b
  pub low : a * 2 < q * b * 2 + b

near_nearest : (a b q : ℕ) → 0 < b → Near a b q → ((k : ℕ) → a * 2 ≡ (k * 2 + 1) * b → ⊥) → Nearest a b q
near_nearest a b zero h w free = record { high = omega arith; low = lt_of_le_of_ne w.low (λ e. free 0 (omega arith)) }
near_nearest a b (suc k) h w free =
    record {
      high = lt_of_le_of_ne w.high (λ e. free k (omega arith));
      low = lt_of_le_of_ne w.low (λ e. free (suc k) (omega arith));
    }

pub nearest_only : (ed : Edition) (m : ℕ) (e : ℤ) → ((k : ℕ) → Tie ed m e k → ⊥)
    → Nearest (m * up e * 10 ^ decimals ed) (down e) (units_of ed m e)
nearest_only ed m e free =
    let a = m * up e * 10 ^ decimals ed in
    near_nearest a (down e) (units_of ed m e) (down_pos e) (rounded_near ed a (down e) (down_pos e)) free
