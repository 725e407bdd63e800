-- Two headers by computation: one whose columns have factors and zeros, with the layout that the entry returns for it,
-- and one whose columns are refused with 16, or with what comes before it.
-- Assumes nothing.
use Prim.Native.Nat.{ℕ, ◌*◌}
use mathlib.Core.Path.{◌≡◌, refl}
use mathlib.Core.List.{List, [], ◌∷◌, ◌++◌}
use lib.ListN.{replicate}
use Rattle.std.specs.Float.{Float, binary64}
use Rattle.std.specs.Float.Ieee.{of_bits}
use Rattle.header.proofs.Texts.{padded, first_records}
use Rattle.bintable.proofs.Computed.{computed}
use Rattle.refusal.specs.Refusal as O
use Rattle.tform.specs.declared.VariableArrayTy.TheVariants as T
use Rattle.tform.specs.declared.TFormType.TheVariants as F
use Rattle.layout.specs.declared.BinTable.{BinTable}
use Rattle.layout.specs.Layout.{no_column}
use Rattle.layout.proofs.Literals.{column, and_scaling}
use Rattle.bintable.specs.Checks.{check16}
use Rattle.bintable.specs.Entry.{column_check, accepted, refused, entry}

-- ---- factors and zeros

-- 15 records and 21 blank ones. TSCAL3 names no column of this table, so its value is not looked at
unfoldable pub header : List ℕ
header =
    first_records "6" "2" "0" "2"
    ++ padded "TFORM1  = '1I      '"
    ++ padded "TZERO1  =                32768"
    ++ padded "TFORM2  = '1E      '"
    ++ padded "TSCAL2  =                    2 / factor"
    ++ padded "TZERO2  =                 0.25"
    ++ padded "TSCAL3  = 'x       '"
    ++ padded "END"
    ++ replicate (21 * 80) 32

abbrev double : ℕ → Float
double bits = of_bits binary64 bits

-- the factors 1 and 2, the zeros 32768 and 0.25
unfoldable pub table : BinTable
table =
    record {
      naxis1 = 6;
      naxis2 = 2;
      pcount = 0;
      theap = 12;
      tfields = 2;
      columns =
          and_scaling (double 0x3FF0000000000000) (double 0x40E0000000000000) (column (F.Items T.I) 1 0)
          ∷ and_scaling (double 0x4000000000000000) (double 0x3FD0000000000000) (column (F.Items T.E) 1 2)
          ∷ replicate 62 no_column;
    }

-- two rows, 1 and 1.5, -1 and a NaN
abbrev pub area : List ℕ
area = 0x00 ∷ 0x01 ∷ 0x3F ∷ 0xC0 ∷ 0x00 ∷ 0x00 ∷ 0xFF ∷ 0xFF ∷ 0x7F ∷ 0xA0 ∷ 0x00 ∷ 0x01 ∷ []

pub enters : entry header area ≡ accepted table
unfolding computed header table
enters = refl

-- ---- what is refused

-- 27 records and 9 blank ones: a text with a factor, a bad form, a zero that is given twice, a factor that is a string, a
-- zero with a power out of the limits, a name that is no string beside a factor that is no number, and a factor that is
-- given twice
unfoldable pub bad_header : List ℕ
bad_header =
    first_records "0" "0" "0" "8"
    ++ padded "TFORM1  = '1I      '"
    ++ padded "TZERO1  =                    1"
    ++ padded "TFORM2  = '1A      '"
    ++ padded "TSCAL2  =                    2"
    ++ padded "TFORM3  = '3Z      '"
    ++ padded "TFORM4  = '1I      '"
    ++ padded "TZERO4  =                    1"
    ++ padded "TZERO4  =                    1"
    ++ padded "TFORM5  = '1J      '"
    ++ padded "TSCAL5  = '2       '"
    ++ padded "TFORM6  = '1D      '"
    ++ padded "TZERO6  =                 0E30"
    ++ padded "TFORM7  = '1E      '"
    ++ padded "TTYPE7  =                    7"
    ++ padded "TSCAL7  =                    x"
    ++ padded "TFORM8  = '1K      '"
    ++ padded "TSCAL8  =                    1"
    ++ padded "TSCAL8  =                    1"
    ++ padded "END"
    ++ replicate (9 * 80) 32

-- each column's own check: 8 and 16 give the column, and 5 the record. 5 comes before the 16 of column 7
pub columns_refused : (column_check bad_header 1 ≡ O.accepted)
    × (column_check bad_header 2 ≡ O.refused 16 2)
    × (column_check bad_header 3 ≡ O.refused 8 3)
    × (column_check bad_header 4 ≡ O.refused 16 4)
    × (column_check bad_header 5 ≡ O.refused 16 5)
    × (column_check bad_header 6 ≡ O.refused 16 6)
    × (column_check bad_header 7 ≡ O.refused 5 21)
    × (check16 bad_header 7 (F.Items T.E) ≡ O.refused 16 7)
    × (column_check bad_header 8 ≡ O.refused 16 8)
unfolding computed bad_header
columns_refused = (refl, refl, refl, refl, refl, refl, refl, refl, refl)

-- the first of them decides: 16 of column 2 comes before 8 of column 3
pub bad_entry : entry bad_header [] ≡ refused 16 2
unfolding computed bad_header
bad_entry = refl
