-- The used names (FORMAT.md, section 4; the standard, 4.4.1 and 7.3), and where a name stands in a list of names.
-- Assumes nothing.
use Rattle.std.specs.Prelude.{ℕ, zero, suc, ◌+◌, ◌/◌, ◌%◌, cond, ltb, Option, Some, None}
use mathlib.Core.List.{List, [], ◌∷◌, ◌++◌, map, flat_map}
use Rattle.ascii.specs.Text.{bytes, same}
use Rattle.keyword.specs.declared.Keyword.{Keyword}
use Rattle.keyword.specs.declared.Keyword.TheVariants as K
use Rattle.keyword.specs.declared.Root.{Root}
use Rattle.keyword.specs.declared.Root.TheVariants as R

-- count numbers from n on
unfoldable pub range : ℕ → ℕ → List ℕ
range n zero = []
range n (suc count) = n ∷ range (suc n) count

-- the digits of n, which is below 1,000, without leading zeros
unfoldable pub numeral : ℕ → List ℕ
numeral n =
    cond (ltb n 10) ((48 + n) ∷ [])
    (cond (ltb n 100) ((48 + n / 10) ∷ (48 + n % 10) ∷ [])
    ((48 + n / 100) ∷ (48 + n / 10 % 10) ∷ (48 + n % 10) ∷ []))

-- the highest n of a name that is numbered by column (7.3.1: a table has at most 999 columns)
abbrev pub index_limit : ℕ
index_limit = 999

-- the columns that this reader takes (section 8): a name has a slot for n up to this
abbrev pub column_slots : ℕ
column_slots = 64

-- a root with each n from 1 to `count` after it
unfoldable pub indexed : ℕ → List ℕ → List (List ℕ)
indexed count root = map (λ (n : ℕ). root ++ numeral n) (range 1 count)

-- the nine names that are not numbered by column
unfoldable pub single : List (List ℕ)
single =
    bytes "XTENSION" ∷ bytes "BITPIX" ∷ bytes "NAXIS" ∷ bytes "NAXIS1" ∷ bytes "NAXIS2" ∷ bytes "PCOUNT" ∷ bytes "GCOUNT" ∷ bytes "TFIELDS" ∷ bytes "THEAP" ∷ []

-- the text of each
abbrev pub text_of : Keyword → List ℕ
text_of K.Xtension = bytes "XTENSION"
text_of K.Bitpix = bytes "BITPIX"
text_of K.Naxis = bytes "NAXIS"
text_of K.Naxis1 = bytes "NAXIS1"
text_of K.Naxis2 = bytes "NAXIS2"
text_of K.Pcount = bytes "PCOUNT"
text_of K.Gcount = bytes "GCOUNT"
text_of K.Tfields = bytes "TFIELDS"
text_of K.Theap = bytes "THEAP"

-- the roots of the numbered names that must not stand twice (section 5), and those whose second record is another
-- refusal
unfoldable pub once_roots : List (List ℕ)
once_roots = bytes "TFORM" ∷ bytes "TTYPE" ∷ []

unfoldable pub other_roots : List (List ℕ)
other_roots = bytes "TSCAL" ∷ bytes "TZERO" ∷ bytes "TNULL" ∷ []

abbrev pub roots : List (List ℕ)
roots = once_roots ++ other_roots

-- the text of each
abbrev pub root_text : Root → List ℕ
root_text R.Tform = bytes "TFORM"
root_text R.Ttype = bytes "TTYPE"
root_text R.Tscal = bytes "TSCAL"
root_text R.Tzero = bytes "TZERO"
root_text R.Tnull = bytes "TNULL"

-- the single names, and these roots with each n up to `count`
abbrev pub names_up_to : ℕ → List (List ℕ) → List (List ℕ)
names_up_to count rs = single ++ flat_map (indexed count) rs

-- the used names
unfoldable pub used_names : List (List ℕ)
used_names = names_up_to index_limit roots

-- the names that must not stand twice
unfoldable pub once_names : List (List ℕ)
once_names = names_up_to index_limit once_roots

-- the names that have a slot, which is the name's place in this list: new roots go to the end
unfoldable pub slot_names : List (List ℕ)
slot_names = names_up_to column_slots roots

-- one place further on
abbrev pub later : Option ℕ → Option ℕ
later (Some k) = Some (suc k)
later None = None

-- the place in a list that has `by` elements more in front
abbrev pub further : ℕ → Option ℕ → Option ℕ
further by (Some k) = Some (by + k)
further by None = None

-- the first place of a name in a list of names
unfoldable pub position : List ℕ → List (List ℕ) → Option ℕ
position n [] = None
position n (x ∷ xs) = cond (same n x) (Some 0) (later (position n xs))
