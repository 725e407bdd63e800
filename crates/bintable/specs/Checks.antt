-- The values of the used names, and the checks 4 to 8, 16 and 17 of their records (FORMAT.md, sections 3, 4 and 10).
-- Assumes nothing.
use Rattle.std.specs.Prelude.{ℕ, List, [], ◌∷◌, ◌++◌, Bool, true, false, not, ◌&&◌, ◌||◌, cond, take, drop, leb, ℤ, pos, negsuc, Option, Some, None, is_some}
use Rattle.std.specs.Float.{Float}
use Prim.Native.String.{String}
use Rattle.card.specs.declared.Value.{Value}
use Rattle.card.specs.declared.Value.TheVariants.{Integer}
use Rattle.card.specs.declared.Value.TheVariants as Val
use Rattle.ascii.specs.Text.{bytes}
use Rattle.card.specs.Value.{value_of, wide_of}
use Rattle.keyword.specs.Names.{numeral}
use Rattle.header.specs.Records.{found}
use Rattle.refusal.specs.Refusal.{Outcome, accepted, refused, before}
use Rattle.header.specs.Checks.{record_of, second_of}
use Rattle.real.specs.Real.{real_at}
use Rattle.tform.specs.declared.TFormType.{TFormType}
use Rattle.tform.specs.declared.TForm.{TForm}
use Rattle.tform.specs.Width.{can_scale, can_have_null}
use Rattle.layout.specs.Layout.{no_scaling}

-- ---- what a value is

abbrev pub is_integer : Option Value → Bool
is_integer (Some (Integer z)) = true
is_integer (Some (Val.String a n)) = false
is_integer None = false

abbrev pub is_string : Option Value → Bool
is_string (Some (Integer z)) = false
is_string (Some (Val.String a n)) = true
is_string None = false

abbrev pub not_negative : Option Value → Bool
not_negative (Some (Integer (pos n))) = true
not_negative (Some (Integer (negsuc n))) = false
not_negative (Some (Val.String a n)) = false
not_negative None = false

-- its number; 0 for a negative one, and for what is no integer
abbrev pub size_in : Option Value → ℕ
size_in (Some (Integer (pos n))) = n
size_in (Some (Integer (negsuc n))) = 0
size_in (Some (Val.String a n)) = 0
size_in None = 0

-- a number from `low` to `high`
abbrev pub within : ℕ → ℕ → Option Value → Bool
within low high v = not_negative v && (leb low (size_in v) && leb (size_in v) high)

-- the bytes of a string, trailing spaces off; none for what is no string. Doubled quotes are still doubled: no text that is looked for here has a quote
abbrev pub text_in : List ℕ → Option Value → List ℕ
text_in h (Some (Integer z)) = []
text_in h (Some (Val.String a n)) = take n (drop a h)
text_in h None = []

-- ---- the values of a header

-- the value of a record; that of a missing one counts as unreadable
abbrev pub value_at : List ℕ → Option ℕ → Option Value
value_at h (Some k) = value_of h k
value_at h None = None

-- the record of a name that is not numbered by column
abbrev pub record_for : List ℕ → String → Option ℕ
record_for h name = record_of h (bytes name)

-- its number
abbrev pub size_for : List ℕ → String → ℕ
size_for h name = size_in (value_at h (record_for h name))

-- the records of the form and of the name of column n, from 1
abbrev pub tform_of : List ℕ → ℕ → Option ℕ
tform_of h n = record_of h (bytes "TFORM" ++ numeral n)

abbrev pub ttype_of : List ℕ → ℕ → Option ℕ
ttype_of h n = record_of h (bytes "TTYPE" ++ numeral n)

-- the records of the factor and of the zero of column n
abbrev pub tscal_of : List ℕ → ℕ → Option ℕ
tscal_of h n = record_of h (bytes "TSCAL" ++ numeral n)

abbrev pub tzero_of : List ℕ → ℕ → Option ℕ
tzero_of h n = record_of h (bytes "TZERO" ++ numeral n)

-- whether either stands in the header, and whether either is given twice
unfoldable pub scaling_given : List ℕ → ℕ → Bool
scaling_given h n = found (tscal_of h n) || found (tzero_of h n)

unfoldable pub twice : List ℕ → ℕ → Bool
twice h n = found (second_of h (bytes "TSCAL" ++ numeral n)) || found (second_of h (bytes "TZERO" ++ numeral n))

-- the real number of a record, if its value is one; that of a missing record is given
abbrev pub real_or : Float → List ℕ → Option ℕ → Option Float
real_or missing h (Some k) = real_at h k
real_or missing h None = Some missing

-- the factor and the zero of column n, if they are numbers: missing ones are 1 and 0
abbrev pub factor_of : List ℕ → ℕ → Option Float
factor_of h n = real_or no_scaling.factor h (tscal_of h n)

abbrev pub zero_of : List ℕ → ℕ → Option Float
zero_of h n = real_or no_scaling.zero h (tzero_of h n)

-- the record of the null of column n, whether it stands in the header, and whether it is given twice
abbrev pub tnull_of : List ℕ → ℕ → Option ℕ
tnull_of h n = record_of h (bytes "TNULL" ++ numeral n)

abbrev pub null_given : List ℕ → ℕ → Bool
null_given h n = found (tnull_of h n)

abbrev pub null_twice : List ℕ → ℕ → Bool
null_twice h n = found (second_of h (bytes "TNULL" ++ numeral n))

-- the integer of a record, of 19 digits at most, if its value is one; a missing record has none
abbrev pub wide_at : List ℕ → Option ℕ → Option ℤ
wide_at h (Some k) = wide_of h k
wide_at h None = None

-- the request's term "mark": the integer of TNULLn
abbrev pub null_number : List ℕ → ℕ → Option ℤ
null_number h n = wide_at h (tnull_of h n)

-- ---- the checks, by their numbers

-- a check of a record, which refuses with this number and the record as its place. A missing record passes: 4 has refused it, or it may be missing
abbrev pub unless : ℕ → Bool → Option ℕ → Outcome
unless number holds (Some k) = cond holds accepted (refused number k)
unless number holds None = accepted

-- 4: the name is missing; n of TFORMn, else 0
abbrev pub check4 : ℕ → Option ℕ → Outcome
check4 n r = cond (found r) accepted (refused 4 n)

-- 5: the value is unreadable or of the other kind; its record
abbrev pub check5 : Bool → Option ℕ → Outcome
check5 kind r = unless 5 kind r

-- 6: the value is not one that a binary table has; its record
abbrev pub check6 : Bool → Option ℕ → Outcome
check6 right r = unless 6 right r

-- 7: the value is above the limit; its record
abbrev pub check7 : ℕ → Option Value → Option ℕ → Outcome
check7 limit v r = unless 7 (leb (size_in v) limit) r

-- 8: a bad form; n
abbrev pub check8 : ℕ → Option TForm → Outcome
check8 n (Some f) = accepted
check8 n None = refused 8 n

-- the column can be scaled, and factor and zero are numbers and given once
abbrev pub scaling_ok : List ℕ → ℕ → TFormType → Bool
scaling_ok h n f = can_scale f && (not (twice h n) && (is_some (factor_of h n) && is_some (zero_of h n)))

-- 16: a factor or a zero stands at a column of another type, is given twice or is no number; n
unfoldable pub check16 : List ℕ → ℕ → TFormType → Outcome
check16 h n f = cond (not (scaling_given h n) || scaling_ok h n f) accepted (refused 16 n)

-- the column's numbers may stand for missing values, and the null is an integer and given once
abbrev pub null_ok : List ℕ → ℕ → TFormType → Bool
null_ok h n f = can_have_null f && (not (null_twice h n) && is_some (null_number h n))

-- 17: a null stands at a column of another type, is given twice or is no integer; n
unfoldable pub check17 : List ℕ → ℕ → TFormType → Outcome
check17 h n f = cond (not (null_given h n) || null_ok h n f) accepted (refused 17 n)

-- the first refusal of some checks
unfoldable pub first_refusal : List Outcome → Outcome
first_refusal [] = accepted
first_refusal (o ∷ os) = before o (first_refusal os)
