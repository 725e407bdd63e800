-- Small tables, read by computation: what the definitions give for them, step by step.
-- Assumes nothing.
use Prim.Native.Nat.{ℕ}
use mathlib.Core.Path.{◌≡◌, refl}
use mathlib.Core.Bool.{Bool, true, false}
use mathlib.Core.List.{List, [], ◌∷◌, map}
use lib.ListN.{replicate}
use lib.IntN.{pos, negsuc}
use Rattle.tform.specs.declared.VariableArrayTy.TheVariants as T
use Rattle.tform.specs.declared.TFormType.TheVariants as F
use Rattle.layout.specs.declared.BinTable.{BinTable}
use Rattle.layout.proofs.Literals.{column}
use Rattle.layout.specs.Layout.{no_column}
use Rattle.cell.specs.declared.Logical.TheVariants.{Yes, No, Unset, Odd}
use Rattle.cell.specs.declared.DataValue.TheVariants as D
use Rattle.cell.specs.declared.Cell.{Cell}
use Rattle.walk.specs.Plain.{cell_of}
use Rattle.walk.specs.Scaled.{plain}
use Rattle.walk.specs.Walk.{Step, read_cell, read_row, seek, Reply, got_cell, got_row, sought, at_end, refused, start}
use Rattle.walk.specs.Step.{Selection, all_columns, listed, cursor_at, choice_of, opened, not_opened, open_with, StepResult, run}
use Rattle.walk.proofs.Computed.{computed_run}

-- the answers of some steps from an opened cursor
pub answers : BinTable → List ℕ → Selection → Bool → List Step → List Reply
unfolding computed_run
answers l a sel heap xs = map (λ (o : StepResult). o.reply) (run l a (cursor_at (choice_of l sel) heap start) xs)

-- ---- `1I`, `1J`, two rows

abbrev pub table : BinTable
table =
    record {
      naxis1 = 6;
      naxis2 = 2;
      pcount = 0;
      theap = 12;
      tfields = 2;
      columns = column (F.Items T.I) 1 0 ∷ column (F.Items T.J) 1 2 ∷ replicate 62 no_column;
    }

abbrev pub area : List ℕ
area = 0x00 ∷ 0x01 ∷ 0x00 ∷ 0x00 ∷ 0x1F ∷ 0x40 ∷ 0xFF ∷ 0xFF ∷ 0x00 ∷ 0x00 ∷ 0x00 ∷ 0x2A ∷ []

opens : open_with table area all_columns true ≡ opened (cursor_at 3 true start)
unfolding computed_run
opens = refl

-- column 9 of 2
no_column_lem : open_with table area (listed (9 ∷ [])) true ≡ not_opened 11
unfolding computed_run
no_column_lem = refl

-- 11 bytes for 12
too_short : open_with table (0 ∷ 0 ∷ 0 ∷ 0 ∷ 0 ∷ 0 ∷ 0 ∷ 0 ∷ 0 ∷ 0 ∷ 0 ∷ []) all_columns true ≡ not_opened 10
unfolding computed_run
too_short = refl

pub four_cells : answers table area all_columns true (replicate 6 (read_cell plain))
    ≡ got_cell (cell_of 0 0 0 (D.Short (pos 1))) ∷ got_cell (cell_of 0 1 0 (D.Integer (pos 8000))) ∷ got_cell (cell_of 1 0 0 (D.Short (negsuc 0)))
    ∷ got_cell (cell_of 1 1 0 (D.Integer (pos 42))) ∷ at_end ∷ at_end ∷ []
unfolding answers
four_cells = refl

-- row 2 of 2, a list that is too short, the rest of a row, the next row, the end, and a seek back
abbrev some_cell : Cell
some_cell = cell_of 7 7 7 (D.Bit 7)

refusals : answers table area (listed (1 ∷ 9 ∷ 1 ∷ [])) true
    (seek 2 ∷ read_row plain [] ∷ read_cell plain ∷ read_row plain (some_cell ∷ []) ∷ read_row plain [] ∷ seek 1 ∷ read_cell plain ∷ [])
    ≡ refused 12 2 ∷ refused 14 1 ∷ got_cell (cell_of 0 1 0 (D.Integer (pos 8000))) ∷ got_row 1 ∷ at_end ∷ sought ∷ got_cell (cell_of 1 1 0 (D.Integer (pos 42))) ∷ []
unfolding answers
refusals = refl

-- ---- bytes of L and X, and an unset, an odd one

letters : answers
    (record { naxis1 = 6; naxis2 = 1; pcount = 0; theap = 6; tfields = 2; columns = column (F.Items T.L) 4 0 ∷ column (F.Items T.X) 9 4 ∷ replicate 62 no_column })
    (84 ∷ 70 ∷ 0 ∷ 1 ∷ 255 ∷ 128 ∷ [])
    all_columns
    true
    (replicate 7 (read_cell plain))
    ≡ got_cell (cell_of 0 0 0 (D.Logical Yes)) ∷ got_cell (cell_of 0 0 1 (D.Logical No)) ∷ got_cell (cell_of 0 0 2 (D.Logical Unset))
    ∷ got_cell (cell_of 0 0 3 (D.Logical (Odd 1))) ∷ got_cell (cell_of 0 1 0 (D.Bit 255)) ∷ got_cell (cell_of 0 1 1 (D.Bit 128)) ∷ at_end ∷ []
unfolding answers
letters = refl

-- ---- descriptors: two empty rows, one of them with an offset outside the heap, an array that ends with the heap, and one that does not

abbrev arrays : BinTable
arrays = record { naxis1 = 8; naxis2 = 4; pcount = 4; theap = 33; tfields = 1; columns = column (F.P T.I) 1 0 ∷ replicate 63 no_column }

abbrev array_area : List ℕ
array_area =
    0 ∷ 0 ∷ 0 ∷ 0 ∷ 255 ∷ 255 ∷ 255 ∷ 255 ∷ 0 ∷ 0 ∷ 0 ∷ 0 ∷ 0 ∷ 0 ∷ 0 ∷ 0 ∷ 0 ∷ 0 ∷ 0 ∷ 1 ∷ 0 ∷ 0 ∷ 0 ∷ 1 ∷ 0 ∷ 0 ∷ 0 ∷ 1 ∷ 0 ∷ 0 ∷ 0 ∷ 2
    ∷ 9 ∷ 8 ∷ 255 ∷ 254 ∷ 7 ∷ []

pub followed : answers arrays array_area all_columns true (read_row plain [] ∷ read_cell plain ∷ read_cell plain ∷ read_row plain [] ∷ seek 1 ∷ read_row plain [] ∷ read_row plain [] ∷ [])
    ≡ got_row 0 ∷ got_cell (cell_of 2 0 0 (D.Short (negsuc 1))) ∷ refused 13 0 ∷ refused 13 0 ∷ sought ∷ got_row 0 ∷ refused 14 1 ∷ []
unfolding answers
followed = refl

-- the same with the heap off
unfollowed : answers arrays array_area all_columns false (read_cell plain ∷ seek 3 ∷ read_cell plain ∷ read_cell plain ∷ [])
    ≡ got_cell (cell_of 0 0 0 (D.VariableLengthArray32 0 4294967295)) ∷ sought ∷ got_cell (cell_of 3 0 0 (D.VariableLengthArray32 1 2)) ∷ at_end ∷ []
unfolding answers
unfollowed = refl

-- ---- `1I`, `0PE`, `1J`, `0QD`: the fields of columns 1 and 3 are empty, so the rows are those of the first table

abbrev empty_fields : BinTable
empty_fields =
    record {
      naxis1 = 6;
      naxis2 = 2;
      pcount = 0;
      theap = 12;
      tfields = 4;
      columns =
          column (F.Items T.I) 1 0 ∷ column (F.P T.E) 0 2 ∷ column (F.Items T.J) 1 2 ∷ column (F.Q T.D) 0 6
          ∷ replicate 60 no_column;
    }

empty_cells : (heap : Bool)
    → answers empty_fields area all_columns heap (read_cell plain ∷ read_cell plain ∷ read_row plain (some_cell ∷ some_cell ∷ []) ∷ read_cell plain ∷ [])
    ≡ got_cell (cell_of 0 0 0 (D.Short (pos 1))) ∷ got_cell (cell_of 0 2 0 (D.Integer (pos 8000))) ∷ got_row 2 ∷ at_end ∷ []
unfolding answers
empty_cells true = refl
empty_cells false = refl

-- chosen alone, such a column gives no cell
empty_alone : (heap : Bool)
    → answers empty_fields area (listed (1 ∷ [])) heap (read_row plain [] ∷ read_cell plain ∷ seek 1 ∷ read_row plain [] ∷ read_row plain [] ∷ [])
    ≡ got_row 0 ∷ at_end ∷ sought ∷ got_row 0 ∷ at_end ∷ []
unfolding answers
empty_alone true = refl
empty_alone false = refl

-- a layout with `2PE`, made by hand: 10
two_descriptors : open_with
    (record { naxis1 = 16; naxis2 = 1; pcount = 0; theap = 16; tfields = 1; columns = column (F.P T.E) 2 0 ∷ replicate 63 no_column })
    (replicate 16 0) all_columns true ≡ not_opened 10
unfolding computed_run
two_descriptors = refl
