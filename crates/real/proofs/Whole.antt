-- A whole number with neither point nor exponent is read as the double of that number. So the zeros 32768, 2147483648,
-- 9223372036854775808 and -128 are those of the columns of unsigned numbers and of signed bytes.
-- Assumes nothing.
use Prim.Native.Nat.{ℕ, zero, suc, ◌^◌, ◌<◌}
use mathlib.Core.Path.{◌≡◌, refl, sym, ap, ◌∙◌}
use mathlib.Core.Bool.{Bool, true, false, ◌||◌}
use mathlib.Core.List.{List, [], ◌++◌, append-nil, append_assoc}
use native.Mathlib.Nat.{mul-one}
use native.Mathlib.Omega.{arith}
use borrow.Author.Tests.{lt-ltb}
use lib.Dec.{eqb, ltb}
use lib.IntN.{pos, neg_ℤ}
use lib.ListN.{length}
use Rattle.std.specs.Prelude.{Some, None}
use Rattle.std.specs.Float.{binary64}
use Rattle.std.specs.Float.Ieee.{round, of_int}
use Rattle.ascii.specs.Text.{front, decimal}
use Rattle.ascii.proofs.Cases.{either}
use Rattle.card.specs.Ends.{follows}
use Rattle.card.specs.Value.{signed}
use Rattle.real.specs.Real.{nearest, real_of}
use Rattle.real.specs.Written.{Sign, Number, IsNumber, Digits, sign_text, negative, text, is_taken}
use Rattle.real.proofs.Laws.{written_read}

-- 0 has no minus
pub whole : (minus : Bool) (m : ℕ) → nearest minus m (pos 0) ≡ of_int binary64 (signed minus m)
unfolding nearest of_int
whole false m = ap (λ (n : ℕ). round binary64 false n 1) (mul-one m)
whole true zero = refl
whole true (suc m) = rw (lt-ltb 0 (suc m) (omega arith)) (ap (λ (n : ℕ). round binary64 true n 1) (mul-one (suc m)))

pub zero_of_short : nearest false 32768 (pos 0) ≡ of_int binary64 (pos 32768)
zero_of_short = whole false 32768

pub zero_of_integer : nearest false 2147483648 (pos 0) ≡ of_int binary64 (pos 2147483648)
zero_of_integer = whole false 2147483648

pub zero_of_long : nearest false 9223372036854775808 (pos 0) ≡ of_int binary64 (pos 9223372036854775808)
zero_of_long = whole false 9223372036854775808

pub zero_of_byte : nearest true 128 (pos 0) ≡ of_int binary64 (neg_ℤ (pos 128))
zero_of_byte = whole true 128

-- the text of such a number, which is below 10 to the power 15 or is 9223372036854775808, in front of what may follow a value
pub whole_read : (g : Sign) (w r : List ℕ) → Digits w → 0 < length w
    → (ltb (decimal 0 w) (10 ^ 15) || eqb (decimal 0 w) 9223372036854775808) ≡ true → follows r ≡ true
    → real_of (sign_text g ++ (w ++ r)) ≡ Some (of_int binary64 (signed (negative g) (decimal 0 w)))
unfolding nearest front
whole_read g w r d p h f =
    let n : Number = record { sign = g; whole = w; fraction = None; exponent = None } in
    let e : w ++ [] ≡ w = append-nil w in
    let t : text n ++ r ≡ sign_text g ++ (w ++ r) = rw e (append_assoc (sign_text g) w r) in
    let k : IsNumber n = record { whole = d; fraction = refl; some = rw e p; exponent = tt } in
    let taken : is_taken n ≡ true =
    rw e (either (ltb (decimal 0 w) (10 ^ 15)) (λ u. rw u) (λ u. let v = rw u at h in rw (u, v))) in
    sym (ap real_of t) ∙ written_read n r k f ∙ rw (taken, e) (ap Some (whole (negative g) (decimal 0 w)))
