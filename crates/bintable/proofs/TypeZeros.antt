-- The zeros by which a type's numbers give exact whole numbers, as a header writes them: -128 for B, 32768 for I,
-- 2147483648 for J and 9223372036854775808 for K.
-- Assumes nothing.
use Prim.Native.Nat.{ℕ, ◌+◌, ◌<◌}
use mathlib.Core.Path.{◌≡◌, refl, sym, ap, ◌∙◌}
use mathlib.Core.Bool.{true}
use mathlib.Core.List.{List, ◌++◌}
use native.Mathlib.Omega.{arith}
use lib.IntN.{pos, neg_ℤ}
use lib.ListN.{get_or}
use Rattle.std.specs.Prelude.{Some}
use Rattle.std.specs.Float.{Float, binary64}
use Rattle.std.specs.Float.Ieee.{of_int}
use Rattle.ascii.specs.Text.{bytes, front, decimal}
use Rattle.card.specs.Ends.{follows}
use Rattle.real.specs.Real.{real_of}
use Rattle.real.specs.Written.{no_sign, minus}
use Rattle.real.proofs.Whole.{whole_read}
use Rattle.layout.specs.declared.BinTable.{BinTable}
use Rattle.layout.specs.Layout.{no_column}
use Rattle.bintable.specs.Checks.{tzero_of}
use Rattle.bintable.specs.Entry.{entry, accepted}
use Rattle.bintable.proofs.RealRecords.{value_text, zero_read}

-- record k is the TZEROn of column c, from 0, of a layout that the entry returns, and r is what may follow its value
module _ (h a : List ℕ) (l : BinTable) (taken : entry h a ≡ accepted l) (c : ℕ) (p : c < l.tfields) (k : ℕ)
    (given : tzero_of h (c + 1) ≡ Some k) (r : List ℕ) (f : follows r ≡ true) where
  abbrev zero : Float
  zero = (get_or l.columns c no_column).scaling.zero

  zero_is : (s : List ℕ) (x : Float) → value_text h k ≡ s → real_of s ≡ Some x → zero ≡ x
  zero_is s x e q = let w : Some zero ≡ Some x = sym (zero_read h a l taken c p k given) ∙ ap real_of e ∙ q in cc

  pub byte_zero : value_text h k ≡ bytes "-128" ++ r → zero ≡ of_int binary64 (neg_ℤ (pos 128))
  unfolding bytes front decimal
  byte_zero e = zero_is (bytes "-128" ++ r) (of_int binary64 (neg_ℤ (pos 128))) e (whole_read minus (bytes "128") r refl (omega arith) refl f)

  pub short_zero : value_text h k ≡ bytes "32768" ++ r → zero ≡ of_int binary64 (pos 32768)
  unfolding bytes front decimal
  short_zero e = zero_is (bytes "32768" ++ r) (of_int binary64 (pos 32768)) e (whole_read no_sign (bytes "32768") r refl (omega arith) refl f)

  pub integer_zero : value_text h k ≡ bytes "2147483648" ++ r → zero ≡ of_int binary64 (pos 2147483648)
  unfolding bytes front decimal
  integer_zero e =
      zero_is (bytes "2147483648" ++ r) (of_int binary64 (pos 2147483648)) e (whole_read no_sign (bytes "2147483648") r refl (omega arith) refl f)

  pub long_zero : value_text h k ≡ bytes "9223372036854775808" ++ r → zero ≡ of_int binary64 (pos 9223372036854775808)
  unfolding bytes front decimal
  long_zero e =
      zero_is (bytes "9223372036854775808" ++ r) (of_int binary64 (pos 9223372036854775808)) e
      (whole_read no_sign (bytes "9223372036854775808") r refl (omega arith) refl f)
