-- The names of columns (FORMAT.md, section 9; the standard, 7.3.2): the part of a header that is a column's name, and the column of a name.
-- Assumes nothing.
use lib.Pointwise.{pointwise}
use Rattle.std.specs.Prelude.{ℕ, suc, ◌+◌, List, [], ◌∷◌, Bool, false, ◌&&◌, cond, length, get_or, take, drop, eqb, leb, ltb, Option, Some, None}
use Rattle.layout.specs.declared.Name.{Name}
use Rattle.layout.specs.declared.Column.{Column}
use Rattle.layout.specs.declared.BinTable.{BinTable}
use Rattle.layout.specs.Layout.{no_column, columns_of}

-- whether a header has the name: it is not missing, and the header is long enough for its stretch
abbrev pub in_header : List ℕ → Option Name → Bool
in_header h None = false
in_header h (Some s) = leb (s.start + s.len) (length h)

-- the bytes of the stretch; none for a missing name
abbrev pub stretch_of : List ℕ → Option Name → List ℕ
stretch_of h None = []
stretch_of h (Some s) = take s.len (drop s.start h)

-- the part of the header that is the name; empty if the name is missing or the header is too short for it
unfoldable pub part_of : List ℕ → Option Name → List ℕ
part_of h s = cond (in_header h s) (stretch_of h s) []

-- the name of a column; empty if there is no such column
unfoldable pub column_name : List ℕ → BinTable → ℕ → List ℕ
column_name h l c = cond (ltb c l.tfields) (part_of h (get_or l.columns c no_column).name) []

-- two quotes (39) next to each other, taken from the front, count as one
unfoldable pub undoubled : List ℕ → List ℕ
undoubled [] = []
undoubled (b ∷ []) = b ∷ []
undoubled (b ∷ c ∷ cs) = cond (eqb b 39 && eqb c 39) (b ∷ undoubled cs) (b ∷ undoubled (c ∷ cs))

-- A (65) to Z (90) as a to z, 32 further; every other byte as it is
abbrev pub lowercase : ℕ → ℕ
lowercase b = cond (leb 65 b && leb b 90) (b + 32) b

-- whether two bytes are alike: the same byte, or the same letter in two cases
abbrev pub alike : ℕ → ℕ → Bool
alike a b = eqb (lowercase a) (lowercase b)

-- whether a name of the header is the one sought: with two quotes as one, as many bytes, each alike to the one in its place
abbrev pub same_name : List ℕ → List ℕ → Bool
same_name part sought = pointwise alike (undoubled part) sought

-- whether a column has the name sought
abbrev pub has_name : List ℕ → List ℕ → Column → Bool
has_name h sought c = in_header h c.name && same_name (stretch_of h c.name) sought

-- the first of some columns that passes a test, counted from c
unfoldable pub first_column : (Column → Bool) → ℕ → List Column → Option ℕ
first_column test c [] = None
first_column test c (x ∷ xs) = cond (test x) (Some c) (first_column test (suc c) xs)

-- the first column that has the name
unfoldable pub find_name : List ℕ → BinTable → List ℕ → Option ℕ
find_name h l sought = first_column (has_name h sought) 0 (columns_of l)
