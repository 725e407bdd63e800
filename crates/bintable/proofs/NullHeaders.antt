-- Two headers by computation: one whose columns have nulls, with the layout that the entry returns for it, and one whose
-- columns are refused with 17, or with what comes before it.
-- Assumes nothing.
use Prim.Native.Nat.{ℕ, ◌*◌}
use mathlib.Core.Path.{◌≡◌, refl}
use mathlib.Core.List.{List, [], ◌∷◌, ◌++◌}
use lib.IntN.{pos, negsuc}
use lib.ListN.{replicate}
use Rattle.std.specs.Float.{Float, binary64}
use Rattle.std.specs.Float.Ieee.{of_bits}
use Rattle.refusal.specs.Refusal as O
use Rattle.tform.specs.declared.VariableArrayTy.TheVariants as T
use Rattle.tform.specs.declared.TFormType.{TFormType}
use Rattle.tform.specs.declared.TFormType.TheVariants as F
use Rattle.layout.specs.declared.Null.{Null}
use Rattle.layout.specs.declared.Null.TheVariants as N
use Rattle.layout.specs.declared.Column.{Column}
use Rattle.layout.specs.declared.BinTable.{BinTable}
use Rattle.layout.specs.Layout.{no_column}
use Rattle.layout.proofs.Literals.{column, and_scaling, and_null}
use Rattle.bintable.specs.Checks.{check17}
use Rattle.bintable.specs.Entry.{column_check, accepted, refused, entry}
use Rattle.header.proofs.Texts.{padded, first_records}
use Rattle.bintable.proofs.Computed.{computed}

-- ---- nulls

-- 30 records and 6 blank ones: a null of each type that can have one, at its limits, past them or beside a factor or a
-- zero, and second records of TNULL8 and TNULL65, which name no column of this table
unfoldable pub header : List ℕ
header =
    first_records "33" "2" "2" "7"
    ++ padded "TFORM1  = '1B      '"
    ++ padded "TNULL1  =                  255 / missing"
    ++ padded "TFORM2  = '1I      '"
    ++ padded "TNULL2  =                65535"
    ++ padded "TFORM3  = '1I      '"
    ++ padded "TZERO3  =                32768"
    ++ padded "TNULL3  =                   -0"
    ++ padded "TFORM4  = '1J      '"
    ++ padded "TSCAL4  =                    2"
    ++ padded "TNULL4  =                   -1"
    ++ padded "TFORM5  = '1K      '"
    ++ padded "TNULL5  =  9223372036854775808"
    ++ padded "TFORM6  = '1K      '"
    ++ padded "TNULL6  = -9223372036854775808"
    ++ padded "TFORM7  = '1PB(2)  '"
    ++ padded "TZERO7  =                 -128"
    ++ padded "TNULL7  = +0000000000000000007"
    ++ padded "TNULL8  =                    1"
    ++ padded "TNULL8  =                    1"
    ++ padded "TNULL65 =                    1"
    ++ padded "TNULL65 =                    1"
    ++ padded "END"
    ++ replicate (6 * 80) 32

abbrev double : ℕ → Float
double bits = of_bits binary64 bits

-- a column of one item, with a null
abbrev item : TFormType → ℕ → Null → Column
item f at n = and_null n (column f 1 at)

-- and with the factor and the zero that some bits are
abbrev scaled_item : TFormType → ℕ → ℕ → ℕ → Null → Column
scaled_item f at factor_bits zero_bits n = and_scaling (double factor_bits) (double zero_bits) (item f at n)

-- the zeros 32768 and -128, and the factor 2
unfoldable pub table : BinTable
table =
    record {
      naxis1 = 33;
      naxis2 = 2;
      pcount = 2;
      theap = 66;
      tfields = 7;
      columns =
          item (F.Items T.B) 0 (N.Number (pos 255))
          ∷ item (F.Items T.I) 1 (N.Number (pos 65535))
          ∷ scaled_item (F.Items T.I) 3 0x3FF0000000000000 0x40E0000000000000 (N.Number (pos 0))
          ∷ scaled_item (F.Items T.J) 5 0x4000000000000000 0 (N.Number (negsuc 0))
          ∷ item (F.Items T.K) 9 N.OutOfRange
          ∷ item (F.Items T.K) 17 (N.Number (negsuc 9223372036854775807))
          ∷ scaled_item (F.P T.B) 25 0x3FF0000000000000 0xC060000000000000 (N.Number (pos 7))
          ∷ replicate 57 no_column;
    }

-- two rows, 255, -1, 0, -1, -2^63, -2^63 and an array of two items, and 254, 32767, 1, 3, 2^63 - 1, -2^63 + 1 and an
-- array of one item, the second of the heap, 7 and 8
abbrev pub area : List ℕ
area =
    0xFF ∷ 0xFF ∷ 0xFF ∷ 0x00 ∷ 0x00 ∷ 0xFF ∷ 0xFF ∷ 0xFF ∷ 0xFF
    ∷ 0x80 ∷ 0x00 ∷ 0x00 ∷ 0x00 ∷ 0x00 ∷ 0x00 ∷ 0x00 ∷ 0x00
    ∷ 0x80 ∷ 0x00 ∷ 0x00 ∷ 0x00 ∷ 0x00 ∷ 0x00 ∷ 0x00 ∷ 0x00
    ∷ 0x00 ∷ 0x00 ∷ 0x00 ∷ 0x02 ∷ 0x00 ∷ 0x00 ∷ 0x00 ∷ 0x00
    ∷ 0xFE ∷ 0x7F ∷ 0xFF ∷ 0x00 ∷ 0x01 ∷ 0x00 ∷ 0x00 ∷ 0x00 ∷ 0x03
    ∷ 0x7F ∷ 0xFF ∷ 0xFF ∷ 0xFF ∷ 0xFF ∷ 0xFF ∷ 0xFF ∷ 0xFF
    ∷ 0x80 ∷ 0x00 ∷ 0x00 ∷ 0x00 ∷ 0x00 ∷ 0x00 ∷ 0x00 ∷ 0x01
    ∷ 0x00 ∷ 0x00 ∷ 0x00 ∷ 0x01 ∷ 0x00 ∷ 0x00 ∷ 0x00 ∷ 0x01
    ∷ 0x07 ∷ 0x08 ∷ []

pub enters : entry header area ≡ accepted table
unfolding computed header table
enters = refl

-- ---- what is refused

-- 30 records and 6 blank ones: a null that is given twice, a bad form, a zero that is no number beside a null that is no
-- integer, nulls of E, of arrays of E and of X, and one of 20 digits, one that is a string and one that is no whole number
unfoldable pub bad_header : List ℕ
bad_header =
    first_records "0" "0" "0" "10"
    ++ padded "TFORM1  = '1J      '"
    ++ padded "TNULL1  =                   -1"
    ++ padded "TFORM2  = '1B      '"
    ++ padded "TNULL2  =                    1"
    ++ padded "TNULL2  =                    1"
    ++ padded "TFORM3  = '3Z      '"
    ++ padded "TFORM4  = '1I      '"
    ++ padded "TZERO4  =                    x"
    ++ padded "TNULL4  =                    x"
    ++ padded "TFORM5  = '1E      '"
    ++ padded "TNULL5  =                    1"
    ++ padded "TFORM6  = '1PE(2)  '"
    ++ padded "TNULL6  =                    1"
    ++ padded "TFORM7  = '8X      '"
    ++ padded "TNULL7  =                    1"
    ++ padded "TFORM8  = '1K      '"
    ++ padded "TNULL8  = 00000000000000000001"
    ++ padded "TFORM9  = '1K      '"
    ++ padded "TNULL9  = '1       '"
    ++ padded "TFORM10 = '1K      '"
    ++ padded "TNULL10 =                  1.5"
    ++ padded "END"
    ++ replicate (6 * 80) 32

-- each column's own check: 17 gives the column, as 8 and 16 do. 16 comes before the 17 of column 4
pub columns_refused : (column_check bad_header 1 ≡ O.accepted)
    × (column_check bad_header 2 ≡ O.refused 17 2)
    × (column_check bad_header 3 ≡ O.refused 8 3)
    × (column_check bad_header 4 ≡ O.refused 16 4)
    × (check17 bad_header 4 (F.Items T.I) ≡ O.refused 17 4)
    × (column_check bad_header 5 ≡ O.refused 17 5)
    × (column_check bad_header 6 ≡ O.refused 17 6)
    × (column_check bad_header 7 ≡ O.refused 17 7)
    × (column_check bad_header 8 ≡ O.refused 17 8)
    × (column_check bad_header 9 ≡ O.refused 17 9)
    × (column_check bad_header 10 ≡ O.refused 17 10)
unfolding computed bad_header
columns_refused = (refl, refl, refl, refl, refl, refl, refl, refl, refl, refl, refl)

-- the first of them decides: 17 of column 2 comes before 8 of column 3
pub bad_entry : entry bad_header [] ≡ refused 17 2
unfolding computed bad_header
bad_entry = refl
