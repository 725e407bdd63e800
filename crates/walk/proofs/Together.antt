-- The request's example, whole, and the nine forms beside it, as one list and one theorem: what each form takes by the definition that
-- the contracts cite, and the four cells from the bytes of the header and of the data area, by the entry, the opening and the steps.
-- Assumes nothing.
use Prim.Native.Nat.{ℕ, ◌*◌}
use mathlib.Core.Path.{◌≡◌, refl, ap}
use mathlib.Core.Bool.{true}
use mathlib.Core.List.{List, [], ◌∷◌, ◌++◌, map}
use lib.ListN.{length, get_or, replicate}
use lib.IntN.{pos, negsuc}
use Rattle.ascii.specs.Text.{bytes, front, decimal}
use Rattle.tform.specs.declared.VariableArrayTy.TheVariants as T
use Rattle.tform.specs.declared.TFormType.TheVariants as F
use Rattle.tform.specs.Width.{among, letter_width}
use Rattle.tform.specs.Form.{repeat_count, element_among, element_of, first_element, kind_of, form_of}
use Rattle.tform.proofs.Examples.{Size, takes, bad, size_of}
use Rattle.layout.specs.declared.BinTable.{BinTable}
use Rattle.layout.specs.Layout.{no_column}
use Rattle.layout.proofs.Literals.{column, and_name}
use Rattle.bintable.specs.Entry.{accepted, entry}
use Rattle.header.proofs.Texts.{padded}
use Rattle.bintable.proofs.Computed.{computed}
use Rattle.cell.specs.declared.DataValue.TheVariants as D
use Rattle.cell.specs.declared.Cell.{Cell}
use Rattle.walk.specs.declared.TableData.{TableData}
use Rattle.walk.specs.Plain.{cell_of}
use Rattle.walk.specs.Scaled.{plain}
use Rattle.walk.specs.Walk.{read_cell, Reply, got_cell, at_end, refused, start}
use Rattle.walk.specs.Step.{all_columns, cursor_at, opened, open_with, StepResult, run}
use Rattle.walk.proofs.Computed.{computed_run}
use Rattle.walk.proofs.Examples.{area}

-- ---- the header of the request's example; its data area is that of Examples

-- 13 records and 23 blank ones: one block of 2,880 bytes
unfoldable pub header : List ℕ
header =
    padded "XTENSION= 'BINTABLE'"
    ++ padded "BITPIX  =                    8"
    ++ padded "NAXIS   =                    2"
    ++ padded "NAXIS1  =                    6"
    ++ padded "NAXIS2  =                    2"
    ++ padded "PCOUNT  =                    0"
    ++ padded "GCOUNT  =                    1"
    ++ padded "TFIELDS =                    2"
    ++ padded "TFORM1  = '1I      '"
    ++ padded "TTYPE1  = 'POS     '"
    ++ padded "TFORM2  = '1J      '"
    ++ padded "TTYPE2  = 'WT      '"
    ++ padded "END"
    ++ replicate (23 * 80) 32

pub one_block : length header ≡ 2880
unfolding header padded bytes
one_block = refl

-- the layout that the entry returns for them: a name is the stretch of the header between its quotes
unfoldable pub table : BinTable
table =
    record {
      naxis1 = 6;
      naxis2 = 2;
      pcount = 0;
      theap = 12;
      tfields = 2;
      columns =
          and_name 731 3 (column (F.Items T.I) 1 0) ∷ and_name 891 2 (column (F.Items T.J) 1 2)
          ∷ replicate 62 no_column;
    }

pub enters : entry header area ≡ accepted table
unfolding computed header table
enters = refl

-- the cursor on all columns with the heap on
abbrev pub cursor : TableData
cursor = cursor_at 3 true start

pub opens : open_with table area all_columns true ≡ opened cursor
unfolding computed_run table
opens = refl

-- ---- the examples

-- a form's text with the bytes that a field of it takes, or a bad form; a cell with its number, from 0, among the cell reads
pub data Example : Type 0 where
  form : List ℕ → Size → Example
  cell : ℕ → Cell → Example

unfoldable pub examples : List Example
examples =
    form (bytes "8X") (takes 1)
    ∷ form (bytes "9X") (takes 2)
    ∷ form (bytes "0E") (takes 0)
    ∷ form (bytes "E") (takes 4)
    ∷ form (bytes "12M") (takes 192)
    ∷ form (bytes "PE(20)") (takes 8)
    ∷ form (bytes "1QD") (takes 16)
    ∷ form (bytes "3Z") bad
    ∷ form (bytes " 1E") bad
    ∷ cell 0 (cell_of 0 0 0 (D.Short (pos 1)))
    ∷ cell 1 (cell_of 0 1 0 (D.Integer (pos 8000)))
    ∷ cell 2 (cell_of 1 0 0 (D.Short (negsuc 0)))
    ∷ cell 3 (cell_of 1 1 0 (D.Integer (pos 42)))
    ∷ []

-- the replies of five cell reads from a cursor
abbrev pub replies : BinTable → TableData → List Reply
replies l c = map (λ (o : StepResult). o.reply) (run l area c (replicate 5 (read_cell plain)))

-- the entry accepts the header and the area with some layout, opening on it gives some cursor, and reply k from there on is r
pub record ReadsAs (k : ℕ) (r : Reply) : Type 0 where
  pub layout : BinTable
  pub cursor : TableData
  pub entered : entry header area ≡ accepted layout
  pub opening : open_with layout area all_columns true ≡ opened cursor
  pub reply : get_or (replies layout cursor) k (refused 0 0) ≡ r

abbrev pub Holds : Example → Type 0
Holds (form text size) = size_of (form_of text) ≡ size
Holds (cell k c) = ReadsAs k (got_cell c)

abbrev pub Every : List Example → Type 0
Every [] = Unit {0}
Every (x ∷ xs) = Holds x × Every xs

-- the five replies, at once
abbrev five : List Reply
five =
    got_cell (cell_of 0 0 0 (D.Short (pos 1))) ∷ got_cell (cell_of 0 1 0 (D.Integer (pos 8000))) ∷ got_cell (cell_of 1 0 0 (D.Short (negsuc 0)))
    ∷ got_cell (cell_of 1 1 0 (D.Integer (pos 42))) ∷ at_end ∷ []

read : replies table cursor ≡ five
unfolding computed_run table
read = refl

reads_as : (k : ℕ) → ReadsAs k (get_or five k (refused 0 0))
reads_as k = record { layout = table; cursor = cursor; entered = enters; opening = opens; reply = ap (λ (rs : List Reply). get_or rs k (refused 0 0)) read }

-- every form and every cell
pub together : Every examples
unfolding examples bytes front decimal among letter_width repeat_count element_among element_of first_element kind_of form_of
together = (refl, (refl, (refl, (refl, (refl, (refl, (refl, (refl, (refl, (reads_as 0, (reads_as 1, (reads_as 2, (reads_as 3, tt)))))))))))))

-- and after the four cells the end
pub then_end : ReadsAs 4 at_end
then_end = reads_as 4
