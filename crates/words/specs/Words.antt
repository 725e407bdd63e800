-- A refusal of a table's file in words: a text for each number of FORMAT.md, section 10. A text is put together of
-- pieces.
-- Assumes nothing.
use Rattle.std.specs.Prelude.{ℕ, zero, suc, codes, Bool, not, ◌&&◌, ◌||◌, cond, List, [], ◌∷◌, ◌++◌, length, take}
use Rattle.std.specs.Prelude.{eqb, leb, Option, Some, None}
use Rattle.std.specs.List.{concat, find}
use Rattle.ascii.specs.Text.{same}
use Rattle.ascii.specs.Number.{decimal_text}
use Rattle.card.specs.Record.{card_at, name_of}
use Rattle.keyword.specs.declared.Keyword.{Keyword}
use Rattle.keyword.specs.declared.Keyword.TheVariants as K
use Rattle.keyword.specs.Names.{text_of}
use Rattle.header.specs.Records.{found, header_of}
use Rattle.header.specs.Checks.{record_of}
use Rattle.refusal.specs.declared.Refusal.{Refusal}
use Rattle.refusal.specs.declared.Refusal.TheVariants as R
use Rattle.refusal.specs.Refusal.{number_of, place_of}

-- a text begins with another
abbrev pub begins : List ℕ → List ℕ → Bool
begins start text = same (take (length start) text) start

-- ---- the name in a record

abbrev pub name_at : List ℕ → ℕ → List ℕ
name_at file k = name_of (card_at file k)

-- a name as it is shown: `a keyword` for an empty one
unfoldable pub shown : List ℕ → List ℕ
shown name = cond (eqb (length name) 0) (codes "a keyword") name

-- what is wrong with the value of a name, which is in the record with this number
unfoldable pub value_text : List ℕ → List ℕ → List ℕ → List ℕ → List ℕ
value_text place name wrong more =
    concat (codes "the value of " ∷ shown name ∷ codes ", in record " ∷ place ∷ wrong ∷ more ∷ [])

-- what the value of a name should be: of XTENSION, TFORMn and TTYPEn a string, of the others an integer
unfoldable pub kind_text : List ℕ → List ℕ
kind_text name =
    cond (same name (codes "XTENSION") || (begins (codes "TFORM") name || begins (codes "TTYPE") name))
    (codes "string that can be read")
    (codes "integer that can be read")

-- the values of a name that are allowed
unfoldable pub wanted_text : List ℕ → List ℕ
wanted_text name =
    cond (same name (codes "XTENSION")) (codes "'BINTABLE' is wanted")
    (cond (same name (codes "BITPIX")) (codes "8 is wanted")
    (cond (same name (codes "NAXIS")) (codes "2 is wanted")
    (cond (same name (codes "GCOUNT")) (codes "1 is wanted")
    (cond (same name (codes "TFIELDS")) (codes "it must be from 0 to 999")
    (cond (same name (codes "THEAP")) (codes "it must be from NAXIS1 x NAXIS2 to NAXIS1 x NAXIS2 + PCOUNT")
    (codes "it must not be negative"))))))

-- the limit of a name's value (section 8), which no other name has
unfoldable pub limit_text : List ℕ → List ℕ
limit_text name =
    cond (same name (codes "NAXIS1")) (codes ", 1,048,576")
    (cond (same name (codes "NAXIS2")) (codes ", 16,777,216")
    (cond (same name (codes "PCOUNT")) (codes ", 2,147,483,647")
    (cond (same name (codes "TFIELDS")) (codes ", 64")
    [])))

-- ---- a required name that is missing

-- the required names, in the order of their checks
abbrev pub required : List Keyword
required = K.Xtension ∷ K.Bitpix ∷ K.Naxis ∷ K.Naxis1 ∷ K.Naxis2 ∷ K.Pcount ∷ K.Gcount ∷ K.Tfields ∷ []

-- no record before END has the name, with a value
abbrev pub missing : List ℕ → Keyword → Bool
missing header k = not (found (record_of header (text_of k)))

-- the first of them that is missing
unfoldable pub first_missing : List ℕ → Option Keyword
first_missing header = find (missing header) required

abbrev pub required_text : Option Keyword → List ℕ
required_text (Some k) = text_of k
required_text None = codes "a required keyword"

-- ---- the refusals by their numbers

-- 1, of an empty file and of any other
unfoldable pub length_text : List ℕ → List ℕ
length_text file =
    cond (eqb (length file) 0) (codes "the file is empty")
    (concat
    (codes "the length of the header is above 57,600 or no multiple of 2,880 bytes; "
    ∷ codes "a file without END is all header"
    ∷ []))

-- 3
abbrev pub repeated_text : List ℕ → List ℕ → List ℕ
repeated_text place name =
    concat (shown name ∷ codes " stands a second time, in record " ∷ place ∷ codes ", counted from 0" ∷ [])

-- 4, of TFORMn and, where n is 0, of a required name
abbrev pub missing_text : List ℕ → List ℕ → ℕ → List ℕ
missing_text place file zero = concat (required_text (first_missing (header_of file)) ∷ codes " is missing" ∷ [])
missing_text place file (suc n) = concat (codes "TFORM" ∷ place ∷ codes " is missing" ∷ [])

-- 5
abbrev pub unreadable_text : List ℕ → List ℕ → List ℕ
unreadable_text place name = value_text place name (codes ", counted from 0, is no ") (kind_text name)

-- 6
abbrev pub invalid_text : List ℕ → List ℕ → List ℕ
invalid_text place name = value_text place name (codes ", counted from 0, is not allowed: ") (wanted_text name)

-- 7
abbrev pub above_limit_text : List ℕ → List ℕ → List ℕ
above_limit_text place name =
    value_text place name (codes ", counted from 0, is above the limit of this reader") (limit_text name)

-- 8
abbrev pub form_text : List ℕ → List ℕ
form_text place =
    concat
    (codes "TFORM"
    ∷ place
    ∷ codes " is no form that can be read: a form is a count of 8,388,608 at most, or none, and a letter of "
    ∷ codes "L X B A I J E K D C M; or a count of 0 or 1, or none, then P or Q and then one of these letters"
    ∷ [])

-- 11
abbrev pub no_column_text : List ℕ
no_column_text =
    concat
    (codes "no column is left in the choice: the table has none, or none of the chosen indexes, "
    ∷ codes "counted from 0, is one of its columns"
    ∷ [])

-- 12
abbrev pub row_text : List ℕ → List ℕ
row_text place = concat (codes "row " ∷ place ∷ codes ", counted from 0, is no row of the table" ∷ [])

-- 13
abbrev pub array_text : List ℕ → List ℕ
array_text place =
    concat (codes "an array of column " ∷ place ∷ codes ", counted from 0, ends past the heap" ∷ [])

-- 14
abbrev pub list_text : List ℕ → List ℕ
list_text place = concat (codes "the list is shorter than what is left of the row, " ∷ place ∷ codes " cells" ∷ [])

-- 15
abbrev pub unsuitable_text : List ℕ
unsuitable_text =
    concat
    (codes "the column is missing, not of a type that is taken here or scaled by TSCALn or TZEROn, "
    ∷ codes "or there is no such edition"
    ∷ [])

-- 16
abbrev pub scaling_text : List ℕ → List ℕ
scaling_text place =
    concat
    (codes "TSCAL"
    ∷ place
    ∷ codes " or TZERO"
    ∷ place
    ∷ codes " is not a number that this reader takes, is given twice, or stands at a column whose type "
    ∷ codes "has no scaling: those of B, I, J, K, E and D have one"
    ∷ [])

-- 17
abbrev pub null_text : List ℕ → List ℕ
null_text place =
    concat
    (codes "TNULL"
    ∷ place
    ∷ codes " is not an integer of at most 19 digits, is given twice, or stands at a column whose type "
    ∷ codes "has no missing values: those of B, I, J and K have them"
    ∷ [])

-- what refused the table, with its place as text
abbrev pub cause_text : List ℕ → Refusal → List ℕ → List ℕ
cause_text place R.BadLength file = length_text file
cause_text place R.MissingEnd file = codes "no record is END, so the header has no end"
cause_text place (R.RepeatedName k) file = repeated_text place (name_at file k)
cause_text place (R.MissingName n) file = missing_text place file n
cause_text place (R.UnreadableValue k) file = unreadable_text place (name_at file k)
cause_text place (R.InvalidValue k) file = invalid_text place (name_at file k)
cause_text place (R.AboveLimit k) file = above_limit_text place (name_at file k)
cause_text place (R.BadForm n) file = form_text place
cause_text place R.RowSizeMismatch file =
    codes "the bytes of the columns do not add up to NAXIS1; a field of P or Q with count 0 takes none"
cause_text place R.Mismatch file =
    codes "the file is shorter than its header says: the data need NAXIS1 x NAXIS2 + PCOUNT bytes"
cause_text place R.NoColumn file = no_column_text
cause_text place (R.NoSuchRow r) file = row_text place
cause_text place (R.ArrayOutsideHeap c) file = array_text place
cause_text place (R.ShortList n) file = list_text place
cause_text place R.Unsuitable file = unsuitable_text
cause_text place (R.InvalidScaling n) file = scaling_text place
cause_text place (R.InvalidNull n) file = null_text place
cause_text place R.BufferMismatch file = codes "the two buffers differ in length, or are shorter than the table"

-- what follows 1 to 4 of a file that begins as a whole FITS file does
unfoldable pub hint_text : Refusal → List ℕ → List ℕ
hint_text r file =
    cond (leb (number_of r) 4 && begins (codes "SIMPLE  = ") file)
    (concat
    (codes "; this looks like a whole FITS file, whose table is an extension: "
    ∷ codes "cut off what stands before it (README says how)"
    ∷ []))
    []

-- the words of a refusal, with a text of its place
unfoldable pub words_with : List ℕ → Refusal → List ℕ → List ℕ
words_with place r file = cause_text place r file ++ hint_text r file

-- and with its place in decimal
abbrev pub words_text : Refusal → List ℕ → List ℕ
words_text r file = words_with (decimal_text (place_of r)) r file
