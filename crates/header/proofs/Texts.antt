-- Records as texts, for examples.
-- Assumes nothing.
use Prim.Native.Nat.{ℕ, ◌-◌}
use Prim.Native.String.{String}
use mathlib.Core.List.{List, ◌++◌}
use lib.ListN.{length, replicate}
use Rattle.ascii.specs.Text.{bytes}

-- a record: its text, and spaces up to 80 bytes
unfoldable pub padded : String → List ℕ
padded text = bytes text ++ replicate (80 - length (bytes text)) 32

-- a record with this name and a value that ends with byte 30
unfoldable pub fixed : String → String → List ℕ
fixed name value =
    bytes name ++ replicate (8 - length (bytes name)) 32 ++ bytes "= " ++ replicate (20 - length (bytes value)) 32
    ++ bytes value
    ++ replicate 50 32

-- the eight records that a header begins with, with these values of NAXIS1, NAXIS2, PCOUNT and TFIELDS
unfoldable pub first_records : String → String → String → String → List ℕ
first_records naxis1 naxis2 pcount tfields =
    padded "XTENSION= 'BINTABLE'"
    ++ fixed "BITPIX" "8"
    ++ fixed "NAXIS" "2"
    ++ fixed "NAXIS1" naxis1
    ++ fixed "NAXIS2" naxis2
    ++ fixed "PCOUNT" pcount
    ++ fixed "GCOUNT" "1"
    ++ fixed "TFIELDS" tfields
