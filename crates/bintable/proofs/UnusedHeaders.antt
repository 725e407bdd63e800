-- Headers that differ in records which hold no used name and in what follows END, by computation: each may become the
-- other, and `entry_same`, `name_same` and `found_same` give for the one what is computed for the other. And headers
-- that may not.
-- Assumes nothing.
use Rattle.std.specs.Prelude.{Some}
use Prim.Native.Nat.{ℕ, ◌*◌}
use mathlib.Core.Path.{◌≡◌, refl, sym, ◌∙◌}
use mathlib.Core.Logic.{◌≢◌}
use mathlib.Core.Bool.{true, false}
use mathlib.Core.List.{List, [], ◌∷◌, ◌++◌}
use native.Mathlib.Omega.{arith}
use lib.IntN.{negsuc}
use lib.ListN.{get_or, replicate}
use Rattle.ascii.specs.Text.{bytes}
use Rattle.header.specs.Unused.{header_may_become}
use Rattle.tform.specs.declared.VariableArrayTy.TheVariants as T
use Rattle.tform.specs.declared.TFormType.TheVariants as F
use Rattle.layout.specs.declared.Null.TheVariants as N
use Rattle.layout.specs.declared.BinTable.{BinTable}
use Rattle.layout.specs.Layout.{no_column}
use Rattle.layout.proofs.Literals.{column, and_name, and_null}
use Rattle.layout.specs.Names.{part_of, column_name, undoubled, first_column, find_name}
use Rattle.bintable.specs.Entry.{accepted, refused, entry}
use Rattle.header.proofs.Texts.{padded, fixed, first_records}
use Rattle.header.proofs.UnusedExamples.{compared}
use Rattle.bintable.proofs.Computed.{computed}
use Rattle.bintable.proofs.Unused.{entry_same, name_same, found_same}

-- 36 records: five of these are given, the last of them to stand where END is expected, and 19 more
unfoldable pub header : List ℕ → List ℕ → List ℕ → List ℕ → List ℕ → List ℕ → List ℕ
header comment unit display null last rest =
    first_records "6" "2" "0" "2"
    ++ comment
    ++ padded "TFORM1  = '1I      '"
    ++ padded "TTYPE1  = 'POS     '"
    ++ unit
    ++ padded "TFORM2  = '1J      '"
    ++ padded "TTYPE2  = 'WT      '"
    ++ display
    ++ null
    ++ last
    ++ rest

-- a comment, a unit and a display format, with this null of column 2
abbrev written : List ℕ → List ℕ → List ℕ
written null last =
    header (padded "COMMENT   coater 3") (padded "TUNIT1  = 'mm      '") (padded "TDISP2  = 'I8      '") null last
    (replicate (19 * 80) 32)

-- the comment has become a record that begins with the letters of a used name but holds no value, the unit a name
-- with a leading zero, and the display format a comment. Behind END stand a second TFORM1 and a bad TNULL1
abbrev rewritten : List ℕ → List ℕ
rewritten null =
    header (padded "TFORM1    '9Z      '") (padded "TNULL02 =                   42") (padded "COMMENT   none") null
    (padded "END")
    (padded "TFORM1  = '9Z      '" ++ padded "TNULL1  = 'none    '" ++ replicate (17 * 80) 32)

abbrev minus_one : List ℕ
minus_one = padded "TNULL2  =                   -1"

abbrev no_integer : List ℕ
no_integer = padded "TNULL2  =                   x1"

unfoldable pub one : List ℕ
one = written minus_one (padded "END")

unfoldable pub other : List ℕ
other = rewritten minus_one

-- the one may become the other
pub becomes : header_may_become one other ≡ true
unfolding compared one other header
becomes = refl

-- they differ in bytes of three records before END and of one behind it
pub headers_differ : (get_or one 640 0 ≢ get_or other 640 0) × (get_or one 885 0 ≢ get_or other 885 0)
    × (get_or one 1120 0 ≢ get_or other 1120 0) × (get_or one 1360 0 ≢ get_or other 1360 0)
unfolding one other header padded fixed first_records bytes
headers_differ = (omega arith, omega arith, omega arith, omega arith)

-- ---- what is computed for the one

unfoldable pub table : BinTable
table =
    record {
      naxis1 = 6;
      naxis2 = 2;
      pcount = 0;
      theap = 12;
      tfields = 2;
      columns =
          and_name 811 3 (column (F.Items T.I) 1 0)
          ∷ and_name 1051 2 (and_null (N.Number (negsuc 0)) (column (F.Items T.J) 1 2))
          ∷ replicate 62 no_column;
    }

-- 1 and 8000, -1 and a missing weight
abbrev pub area : List ℕ
area = 0x00 ∷ 0x01 ∷ 0x00 ∷ 0x00 ∷ 0x1F ∷ 0x40 ∷ 0xFF ∷ 0xFF ∷ 0xFF ∷ 0xFF ∷ 0xFF ∷ 0xFF ∷ []

pub enters : entry one area ≡ accepted table
unfolding computed one table header
enters = refl

weight_name : column_name one table 1 ≡ bytes "WT"
unfolding one table header padded fixed first_records bytes column_name part_of
weight_name = refl

weight_found : find_name one table (bytes "wt") ≡ Some 1
unfolding one table header padded fixed first_records bytes undoubled first_column find_name
weight_found = refl

-- ---- what is proved of the other

-- the entry accepts it with the same area, as the same layout
pub enters_too : entry other area ≡ accepted table
enters_too = sym (entry_same one other becomes area) ∙ enters

-- in it column 1 has the same name, and is found by it
pub weight_name_too : column_name other table 1 ≡ bytes "WT"
weight_name_too = sym (name_same one other becomes area table enters 1) ∙ weight_name

pub weight_found_too : find_name other table (bytes "wt") ≡ Some 1
weight_found_too = sym (found_same one other becomes area table enters (bytes "wt")) ∙ weight_found

-- a refusal and its place: two headers with a null that is no integer
pub bad_becomes : header_may_become (written no_integer (padded "END")) (rewritten no_integer) ≡ true
unfolding compared header
bad_becomes = refl

bad_refused : entry (written no_integer (padded "END")) area ≡ refused 17 2
unfolding computed header
bad_refused = refl

-- both get the same refusal
pub refused_too : entry (rewritten no_integer) area ≡ refused 17 2
refused_too =
    sym (entry_same (written no_integer (padded "END")) (rewritten no_integer) bad_becomes area) ∙ bad_refused

-- ---- what may not become another

-- END stays END, and no other record becomes END
pub end_stays : (header_may_become one (written minus_one (padded "COMMENT")) ≡ false)
    × (header_may_become (written minus_one (padded "COMMENT")) one ≡ false)
unfolding compared one header
end_stays = (refl, refl)

-- a null neither goes nor changes
pub null_stays : (header_may_become one (written (padded "COMMENT") (padded "END")) ≡ false)
    × (header_may_become one (written no_integer (padded "END")) ≡ false)
unfolding compared one header
null_stays = (refl, refl)

-- a header without END, of which all records count
pub without_end : header_may_become (replicate 2880 32) (padded "COMMENT" ++ replicate 2800 32) ≡ true
unfolding compared
without_end = refl
