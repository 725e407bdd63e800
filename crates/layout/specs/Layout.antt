-- The layout of a table, and the limits and sums that it keeps (FORMAT.md, section 8; the standard, 7.3.1, 7.3.2 and 7.3.5).
-- Assumes nothing.
use Rattle.std.specs.Prelude.{ℕ, ◌+◌, ◌*◌, List, [], ◌∷◌, Bool, false, ◌&&◌, take, replicate, eqb, leb, pos, None}
use Rattle.std.specs.Float.{nan, fin}
use Rattle.keyword.specs.Names.{column_slots}
use Rattle.tform.specs.declared.VariableArrayTy.TheVariants.{L}
use Rattle.tform.specs.declared.TFormType.TheVariants.{Items}
use Rattle.tform.specs.Width.{field_bytes, count_ok}
use Rattle.layout.specs.declared.Scaling.{Scaling}
use Rattle.layout.specs.declared.Null.TheVariants.{NotGiven}
use Rattle.layout.specs.declared.Column.{Column}
use Rattle.layout.specs.declared.BinTable.{BinTable}

-- the limits of this reader
abbrev pub naxis1_limit : ℕ
naxis1_limit = 1048576

abbrev pub naxis2_limit : ℕ
naxis2_limit = 16777216

abbrev pub pcount_limit : ℕ
pcount_limit = 2147483647

abbrev pub tfields_limit : ℕ
tfields_limit = column_slots

-- so main size + PCOUNT is at most this
abbrev pub data_limit : ℕ
data_limit = naxis1_limit * naxis2_limit + pcount_limit

-- the scaling of a column without TSCALn and TZEROn: the factor 1 and the zero 0
abbrev pub no_scaling : Scaling
no_scaling = record { factor = fin false 1 (pos 0); zero = fin false 0 (pos 0) }

-- what stands in the array of columns where there is none. No step uses its scaling
abbrev pub no_column : Column
no_column =
    record {
      form = Items L;
      count = 0;
      start = 0;
      name = None;
      scaling_given = false;
      scaling = record { factor = nan; zero = nan };
      null = NotGiven;
    }

-- the layout beside a refusal
abbrev pub empty_layout : BinTable
empty_layout = record { naxis1 = 0; naxis2 = 0; pcount = 0; theap = 0; tfields = 0; columns = replicate tfields_limit no_column }

-- the bytes of a column in a row
abbrev pub column_bytes : Column → ℕ
column_bytes c = field_bytes c.form c.count

-- the bytes of some columns
unfoldable pub row_bytes : List Column → ℕ
row_bytes [] = 0
row_bytes (c ∷ cs) = column_bytes c + row_bytes cs

-- the columns of a layout
abbrev pub columns_of : BinTable → List Column
columns_of l = take l.tfields l.columns

-- the main size
abbrev pub main_size : BinTable → ℕ
main_size l = l.naxis1 * l.naxis2

-- the main size and PCOUNT: where the heap ends
abbrev pub data_size : BinTable → ℕ
data_size l = main_size l + l.pcount

-- each count is within its limit, each column starts where the one before ends, the first at byte `at`, and the last ends at byte `end`
unfoldable pub columns_ok : ℕ → ℕ → List Column → Bool
columns_ok end at [] = eqb at end
columns_ok end at (c ∷ cs) = count_ok c.form c.count && (eqb c.start at && columns_ok end (at + column_bytes c) cs)

-- the layout keeps every limit and sum
unfoldable pub layout_ok : BinTable → Bool
layout_ok l =
    leb l.naxis1 naxis1_limit && (leb l.naxis2 naxis2_limit && (leb l.pcount pcount_limit && (leb l.tfields tfields_limit
    && (leb (main_size l) l.theap && (leb l.theap (data_size l) && columns_ok l.naxis1 0 (columns_of l))))))
