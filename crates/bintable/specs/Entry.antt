-- The entry (FORMAT.md, sections 7 to 10; the standard, 7.3.1, 7.3.2 and 7.3.5): for a header and a data area, the layout or one refusal.
-- Assumes nothing.
use Rattle.std.specs.Prelude.{ℕ, zero, suc, ◌+◌, ◌-◌, ◌*◌, ◌^◌, List, [], ◌∷◌, ◌++◌, map, Bool, cond, length, replicate, eqb, ltb, leb, ℤ, pos, negsuc, Option, Some, None, Result, Ok, Err}
use Rattle.std.specs.Option.{unwrap_or}
use Rattle.card.specs.declared.Value.{Value}
use Rattle.card.specs.declared.Value.TheVariants.{Integer, String}
use Rattle.ascii.specs.Text.{bytes, same}
use Rattle.keyword.specs.Names.{range, index_limit}
use Rattle.refusal.specs.declared.Refusal.{Refusal}
use Rattle.refusal.specs.Refusal.{Outcome, before, number_of, place_of}
use Rattle.header.specs.Checks.{checked}
use Rattle.refusal.specs.Refusal as O
use Rattle.tform.specs.declared.VariableArrayTy.TheVariants.{L}
use Rattle.tform.specs.declared.TFormType.{TFormType}
use Rattle.tform.specs.declared.TFormType.TheVariants.{Items}
use Rattle.tform.specs.declared.TForm.{TForm}
use Rattle.tform.specs.Form.{form_of}
use Rattle.layout.specs.declared.Name.{Name}
use Rattle.layout.specs.declared.Scaling.{Scaling}
use Rattle.layout.specs.declared.Null.{Null}
use Rattle.layout.specs.declared.Null.TheVariants as N
use Rattle.layout.specs.declared.Column.{Column}
use Rattle.layout.specs.declared.BinTable.{BinTable}
use Rattle.layout.specs.Layout.{naxis1_limit, naxis2_limit, pcount_limit, tfields_limit, no_scaling, no_column, empty_layout, column_bytes, row_bytes, columns_of, data_size}
use Rattle.bintable.specs.Checks.{is_integer, is_string, not_negative, size_in, within, text_in, value_at, record_for, size_for, tform_of, ttype_of, scaling_given, factor_of, zero_of, null_number}
use Rattle.bintable.specs.Checks.{check4, check5, check6, check7, check8, check16, check17, first_refusal}

-- ---- the nine names

-- a name that must be there, by 4, 5 and 6: it has a value of this kind, and one that is right
unfoldable pub required : List ℕ → Option ℕ → (Option Value → Bool) → (Option Value → Bool) → Outcome
required h r kind right = first_refusal (check4 0 r ∷ check5 (kind (value_at h r)) r ∷ check6 (right (value_at h r)) r ∷ [])

-- the same, and by 7
unfoldable pub limited : List ℕ → Option ℕ → (Option Value → Bool) → (Option Value → Bool) → ℕ → Outcome
limited h r kind right limit =
    first_refusal (check4 0 r ∷ check5 (kind (value_at h r)) r ∷ check6 (right (value_at h r)) r ∷ check7 limit (value_at h r) r ∷ [])

-- THEAP may be missing; else it lies from the main size to the main size and PCOUNT
unfoldable pub theap_check : List ℕ → Option ℕ → ℕ → ℕ → Outcome
theap_check h r main pcount = first_refusal (check5 (is_integer (value_at h r)) r ∷ check6 (within main (main + pcount) (value_at h r)) r ∷ [])

-- the main size
abbrev pub main_of : List ℕ → ℕ
main_of h = size_for h "NAXIS1" * size_for h "NAXIS2"

-- the nine, in their order
unfoldable pub nine : List ℕ → List Outcome
nine h =
    required h (record_for h "XTENSION") is_string (λ (v : Option Value). same (text_in h v) (bytes "BINTABLE"))
    ∷ required h (record_for h "BITPIX") is_integer (within 8 8)
    ∷ required h (record_for h "NAXIS") is_integer (within 2 2)
    ∷ limited h (record_for h "NAXIS1") is_integer not_negative naxis1_limit
    ∷ limited h (record_for h "NAXIS2") is_integer not_negative naxis2_limit
    ∷ limited h (record_for h "PCOUNT") is_integer not_negative pcount_limit
    ∷ required h (record_for h "GCOUNT") is_integer (within 1 1)
    ∷ limited h (record_for h "TFIELDS") is_integer (within 0 index_limit) tfields_limit
    ∷ theap_check h (record_for h "THEAP") (main_of h) (size_for h "PCOUNT")
    ∷ []

unfoldable pub nine_checks : List ℕ → Outcome
nine_checks h = first_refusal (nine h)

-- ---- the columns

-- the form of column n
abbrev pub form_for : List ℕ → ℕ → Option TForm
form_for h n = form_of (text_in h (value_at h (tform_of h n)))

-- the type and the count of a form; a bad one has none
abbrev pub type_in : Option TForm → TFormType
type_in (Some f) = f.form
type_in None = Items L

abbrev pub count_in : Option TForm → ℕ
count_in (Some f) = f.count
count_in None = 0

-- TFORMn by 4, 5 and 8; then TTYPEn by 5, TSCALn and TZEROn by 16, and TNULLn by 17, all of which may be missing
unfoldable pub column_check : List ℕ → ℕ → Outcome
column_check h n =
    let r = tform_of h n in let t = ttype_of h n in let f = form_for h n in
    first_refusal (check4 n r ∷ check5 (is_string (value_at h r)) r ∷ check8 n f ∷ check5 (is_string (value_at h t)) t
    ∷ check16 h n (type_in f) ∷ check17 h n (type_in f) ∷ [])

-- the columns from 1 to `many`
unfoldable pub column_checks : List ℕ → ℕ → Outcome
column_checks h many = first_refusal (map (column_check h) (range 1 many))

-- the name that a value of TTYPEn is, as a stretch of the header; a missing one differs from an empty one
abbrev pub name_in : Option Value → Option Name
name_in (Some (Integer z)) = None
name_in (Some (String a n)) = Some (record { start = a; len = n })
name_in None = None

-- the scaling of column n; in a header that 16 refuses what is no number reads as if it were missing
unfoldable pub scaling_of : List ℕ → ℕ → Scaling
scaling_of h n = record { factor = unwrap_or (factor_of h n) no_scaling.factor; zero = unwrap_or (zero_of h n) no_scaling.zero }

-- an integer that 64 bits with a sign hold
abbrev pub fits_64_bits : ℤ → Bool
fits_64_bits (pos n) = ltb n (2 ^ 63)
fits_64_bits (negsuc n) = ltb n (2 ^ 63)

-- the null that the integer of TNULLn gives. One outside these bits is none of a column's stored numbers
abbrev pub null_from : Option ℤ → Null
null_from (Some z) = cond (fits_64_bits z) (N.Number z) N.OutOfRange
null_from None = N.NotGiven

-- the null of column n; in a header that 17 refuses what is no integer reads as if it were missing
unfoldable pub null_of : List ℕ → ℕ → Null
null_of h n = null_from (null_number h n)

-- column n, which starts at byte `at` of a row
abbrev pub column_at : List ℕ → ℕ → ℕ → Column
column_at h n at =
    record {
      form = type_in (form_for h n);
      count = count_in (form_for h n);
      start = at;
      name = name_in (value_at h (ttype_of h n));
      scaling_given = scaling_given h n;
      scaling = scaling_of h n;
      null = null_of h n;
    }

-- as many columns as `many`, from column n, which starts at byte `at`: each other one starts where the one before ends
unfoldable pub columns_from : List ℕ → ℕ → ℕ → ℕ → List Column
columns_from h at n zero = []
columns_from h at n (suc many) = let c = column_at h n at in c ∷ columns_from h (at + column_bytes c) (suc n) many

-- ---- the layout, which the header alone decides

-- where the heap starts: at the main size if THEAP is missing
abbrev pub theap_in : ℕ → Option Value → Option ℕ → ℕ
theap_in main v (Some k) = size_in v
theap_in main v None = main

unfoldable pub layout_of : List ℕ → BinTable
layout_of h =
    record {
      naxis1 = size_for h "NAXIS1";
      naxis2 = size_for h "NAXIS2";
      pcount = size_for h "PCOUNT";
      theap = theap_in (main_of h) (value_at h (record_for h "THEAP")) (record_for h "THEAP");
      tfields = size_for h "TFIELDS";
      columns = columns_from h 0 1 (size_for h "TFIELDS") ++ replicate (tfields_limit - size_for h "TFIELDS") no_column;
    }

-- 9: the bytes of the fields do not add up to NAXIS1
unfoldable pub check9 : BinTable → Outcome
check9 l = cond (eqb (row_bytes (columns_of l)) l.naxis1) O.accepted (O.refused 9 0)

-- 10: the data area is shorter than main size + PCOUNT
unfoldable pub check10 : BinTable → List ℕ → Outcome
check10 l a = cond (leb (data_size l) (length a)) O.accepted (O.refused 10 0)

-- ---- the entry

-- the checks of the header: 1, 2 and 3, the nine names, the columns, 9
unfoldable pub header_checks : List ℕ → Outcome
header_checks h = first_refusal (checked h ∷ nine_checks h ∷ column_checks h (size_for h "TFIELDS") ∷ check9 (layout_of h) ∷ [])

-- all checks, in their order: the data area is looked at last, and for its length alone
unfoldable pub all_checks : List ℕ → List ℕ → Outcome
all_checks h a = before (header_checks h) (check10 (layout_of h) a)

-- a layout, or a refusal's number and place. The request's term "accepted", of a data area: the entry returns a layout for it
pub data Entry : Type 0 where
  accepted : BinTable → Entry
  refused : ℕ → ℕ → Entry

-- the layout where the checks accept
abbrev pub entry_by : Outcome → BinTable → Entry
entry_by O.accepted l = accepted l
entry_by (O.refused number place) l = refused number place

abbrev pub entry : List ℕ → List ℕ → Entry
entry h a = entry_by (all_checks h a) (layout_of h)

-- what the code's entry returned
abbrev pub entry_of : Result BinTable Refusal → Entry
entry_of (Ok l) = accepted l
entry_of (Err r) = refused (number_of r) (place_of r)

-- the layout of an entry, and for a refusal the empty one
abbrev pub layout_in : Entry → BinTable
layout_in (accepted l) = l
layout_in (refused number place) = empty_layout
