-- The scaling of a column of an accepted header, and what its stored numbers come to, where they are not the column's
-- null: its factor and its zero are doubles, and without TSCALn, by the zero of its type, each gives the exact whole number.
-- Assumes nothing.
use Prim.Native.Nat.{ℕ, ◌+◌, ◌<◌}
use mathlib.Core.Path.{◌≡◌, refl}
use mathlib.Core.Bool.{true}
use mathlib.Core.List.{List, ◌++◌}
use lib.ListN.{get_or}
use lib.IntN.{ℤ, pos, ◌-ℤ◌}
use Rattle.std.specs.Prelude.{Some, None}
use Rattle.std.specs.Float.{float_one}
use Rattle.ascii.specs.Text.{bytes}
use Rattle.card.specs.Ends.{follows}
use Rattle.tform.specs.declared.VariableArrayTy.TheVariants as T
use Rattle.layout.specs.declared.BinTable.{BinTable}
use Rattle.layout.specs.declared.Scaling.{Scaling}
use Rattle.bintable.specs.Checks.{tscal_of, tzero_of}
use Rattle.bintable.specs.Entry.{entry, accepted}
use Rattle.bintable.proofs.RealRecords.{value_text, scaling_says, scaling_finite}
use Rattle.bintable.proofs.TypeZeros.{byte_zero, short_zero, integer_zero, long_zero}
use Rattle.cell.specs.declared.DataValue.TheVariants as D
use Rattle.cell.specs.Item.{raw_item}
use Rattle.cell.specs.Scaled.{scaled_value}
use Rattle.cell.proofs.ScaledLaws.{HoldsDoubles, IsSum, exact_byte, exact_short, exact_integer, exact_long}
use Rattle.cell.proofs.Ranges.{item_range}
use Rattle.walk.specs.Plain.{column_of}

module _ (h a : List ℕ) (l : BinTable) (taken : entry h a ≡ accepted l) (c : ℕ) (p : c < l.tfields) where
  abbrev scaling : Scaling
  scaling = (column_of l c).scaling

  -- factor and zero are doubles
  pub column_doubles : HoldsDoubles scaling
  column_doubles = let s = scaling_finite h a l taken c p in (s.0.0, s.1.0)

  -- a column with a zero, in record k, and no factor, in an area of bytes: the item of its type at any place, as its bytes
  -- say it, by the text of the zero
  module _ (no_factor : tscal_of h (c + 1) ≡ None) (k : ℕ) (given : tzero_of h (c + 1) ≡ Some k) (r : List ℕ) (f : follows r ≡ true)
      (below : (i : ℕ) → get_or a i 0 < 256) (at : ℕ) where
    factor_is : scaling.factor ≡ float_one
    factor_is = rw no_factor at (scaling_says h a l taken c p).0

    pub byte_column : value_text h k ≡ bytes "-128" ++ r
        → (n : ℕ) × (raw_item T.B a at ≡ D.UnsignedByte n) × (scaled_value scaling (raw_item T.B a at) ≡ D.Long (pos n -ℤ pos 128))
    byte_column e = (_, refl, (exact_byte scaling _ factor_is (byte_zero h a l taken c p k given r f e) (item_range a below T.B at)).0)

    pub short_column : value_text h k ≡ bytes "32768" ++ r
        → (z : ℤ) × (raw_item T.I a at ≡ D.Short z) × IsSum 32768 z (scaled_value scaling (raw_item T.I a at))
    short_column e = (_, refl, exact_short scaling _ factor_is (short_zero h a l taken c p k given r f e) (item_range a below T.I at))

    pub integer_column : value_text h k ≡ bytes "2147483648" ++ r
        → (z : ℤ) × (raw_item T.J a at ≡ D.Integer z) × IsSum 2147483648 z (scaled_value scaling (raw_item T.J a at))
    integer_column e = (_, refl, exact_integer scaling _ factor_is (integer_zero h a l taken c p k given r f e) (item_range a below T.J at))

    pub long_column : value_text h k ≡ bytes "9223372036854775808" ++ r
        → (z : ℤ) × (raw_item T.K a at ≡ D.Long z) × IsSum 9223372036854775808 z (scaled_value scaling (raw_item T.K a at))
    long_column e = (_, refl, exact_long scaling _ factor_is (long_zero h a l taken c p k given r f e) (item_range a below T.K at))
