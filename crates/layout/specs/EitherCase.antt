-- What the laws on finding a name in either case speak of. No contract cites it.
-- Assumes nothing.
use Rattle.std.specs.Prelude.{ℕ, List, [], ◌∷◌, Bool, ◌&&◌, ◌||◌, cond, get_or, eqb, leb, Option}
use Rattle.ascii.specs.Text.{same}
use Rattle.layout.specs.declared.Column.{Column}
use Rattle.layout.specs.declared.BinTable.{BinTable}
use Rattle.layout.specs.Layout.{no_column, columns_of}
use Rattle.layout.specs.Names.{in_header, stretch_of, undoubled, has_name, first_column}

-- A (65) to Z (90), and a (97) to z (122)
abbrev pub letter : ℕ → Bool
letter b = (leb 65 b && leb b 90) || (leb 97 b && leb b 122)

-- a text as a header writes it, each quote (39) as two
unfoldable pub doubled : List ℕ → List ℕ
doubled [] = []
doubled (b ∷ bs) = cond (eqb b 39) (39 ∷ 39 ∷ doubled bs) (b ∷ doubled bs)

-- whether column c of a layout has the name sought; where there is no such column it does not
abbrev pub named : List ℕ → BinTable → List ℕ → ℕ → Bool
named h l sought c = has_name h sought (get_or (columns_of l) c no_column)

-- whether a column has the name sought byte for byte
abbrev pub has_bytes : List ℕ → List ℕ → Column → Bool
has_bytes h sought c = in_header h c.name && same (undoubled (stretch_of h c.name)) sought

-- the first column that has the name byte for byte
unfoldable pub find_bytes : List ℕ → BinTable → List ℕ → Option ℕ
find_bytes h l sought = first_column (has_bytes h sought) 0 (columns_of l)
