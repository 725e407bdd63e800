-- A narrow choice beside all columns, whole: from the bytes of a header and of a data area, by the entry and the two
-- openings, to the entries and to what cell reads of both cursors answer, in both readings. Reads of all columns stop
-- at a 13 of the column that is not chosen, and reads of the choice at a later one, of a column that is.
-- Assumes nothing.
use Prim.Native.Nat.{ℕ, ◌*◌, ◌≤◌}
use mathlib.Core.Path.{◌≡◌, refl}
use mathlib.Core.Bool.{true}
use mathlib.Core.List.{List, [], ◌∷◌, ◌++◌, map}
use native.Mathlib.Omega.{arith}
use lib.ListN.{length, replicate}
use lib.IntN.{pos}
use Rattle.std.specs.Float.{binary64}
use Rattle.std.specs.Float.Ieee.{of_bits}
use Rattle.tform.specs.declared.VariableArrayTy.TheVariants as T
use Rattle.tform.specs.declared.TFormType.TheVariants as F
use Rattle.layout.specs.declared.BinTable.{BinTable}
use Rattle.layout.proofs.Literals.{column}
use Rattle.layout.specs.Layout.{no_column}
use Rattle.bintable.specs.Entry.{accepted, entry}
use Rattle.cell.specs.declared.DataValue.{DataValue}
use Rattle.cell.specs.declared.DataValue.TheVariants as D
use Rattle.cell.specs.declared.Cell.{Cell}
use Rattle.walk.specs.declared.TableData.{TableData}
use Rattle.walk.specs.declared.Entry.{Entry}
use Rattle.walk.specs.declared.Entry.TheVariants as E
use Rattle.walk.specs.declared.How.{How}
use Rattle.walk.specs.declared.Reading.{Reading}
use Rattle.walk.specs.declared.Reading.TheVariants.{Plain, Scaled}
use Rattle.walk.specs.Plain.{cell_of}
use Rattle.walk.specs.Walk.{got_cell, refused, start}
use Rattle.walk.specs.Step.{Selection, all_columns, listed, wanted, cursor_at}
use Rattle.walk.proofs.Computed.{computed_run}
use Rattle.walk.specs.Step.{opened, open_with}
use Rattle.walk.specs.Narrow.{struck, struck_cells, cells_in, cells_before_13, behind_13}
use Rattle.header.proofs.Texts.{padded, first_records}
use Rattle.bintable.proofs.Computed.{computed}
use Rattle.walk.proofs.NarrowReads.{cell_replies, table_entries, narrow_cells}

-- ---- the table

-- three rows of `1PB`, `1I` and `1PJ`, and a heap of 12 bytes
abbrev pub table : BinTable
table =
    record {
      naxis1 = 18;
      naxis2 = 3;
      pcount = 12;
      theap = 54;
      tfields = 3;
      columns = column (F.P T.B) 1 0 ∷ column (F.Items T.I) 1 8 ∷ column (F.P T.J) 1 10 ∷ replicate 61 no_column;
    }

-- 12 records and 24 blank ones
unfoldable pub header : List ℕ
header =
    first_records "18" "3" "12" "3"
    ++ padded "TFORM1  = '1PB     '"
    ++ padded "TFORM2  = '1I      '"
    ++ padded "TFORM3  = '1PJ     '"
    ++ padded "END"
    ++ replicate (24 * 80) 32

-- a descriptor of 32 bits: its count and its offset
abbrev descriptor : ℕ → ℕ → List ℕ
descriptor count offset = 0 ∷ 0 ∷ 0 ∷ count ∷ 0 ∷ 0 ∷ 0 ∷ offset ∷ []

-- in row 1 the arrays of columns 0 and 2 both end past the heap
unfoldable pub area : List ℕ
area =
    descriptor 2 0 ++ (0 ∷ 1 ∷ []) ++ descriptor 1 4
    ++ descriptor 5 8 ++ (0 ∷ 2 ∷ []) ++ descriptor 1 9
    ++ descriptor 1 2 ++ (0 ∷ 3 ∷ []) ++ descriptor 1 8
    ++ (80 ∷ 90 ∷ 70 ∷ 0 ∷ 0 ∷ 0 ∷ 1 ∷ 0 ∷ 0 ∷ 0 ∷ 2 ∷ 0 ∷ [])

-- columns 1 and 2, with an index that the table lacks and one that comes twice
abbrev pub selection : Selection
selection = listed (2 ∷ 9 ∷ 1 ∷ 2 ∷ [])

-- the cursor on these, and the one on all columns
abbrev pub cursor : TableData
cursor = cursor_at 6 true start

abbrev pub all_cursor : TableData
all_cursor = cursor_at 7 true start

-- ---- what stands in it

-- a plain value, and the double that it is in the other reading
abbrev value : Reading → DataValue → ℕ → DataValue
value Plain v bits = v
value Scaled v bits = D.Double (of_bits binary64 bits) bits

abbrev byte : Reading → ℕ → ℕ → ℕ → ℕ → Cell
byte m r i b bits = cell_of r 0 i (value m (D.UnsignedByte b) bits)

abbrev short : Reading → ℕ → ℕ → ℕ → Cell
short m r b bits = cell_of r 1 0 (value m (D.Short (pos b)) bits)

abbrev integer : Reading → ℕ → ℕ → ℕ → Cell
integer m r b bits = cell_of r 2 0 (value m (D.Integer (pos b)) bits)

-- the entries of all columns: the first 13 is one of column 0, and the next one of column 2
abbrev pub full : Reading → List Entry
full m =
    E.Cell (byte m 0 0 80 0x4054000000000000) ∷ E.Cell (byte m 0 1 90 0x4056800000000000)
    ∷ E.Cell (short m 0 1 0x3FF0000000000000) ∷ E.Cell (integer m 0 256 0x4070000000000000)
    ∷ E.OutsideHeap 0 ∷ E.Cell (short m 1 2 0x4000000000000000) ∷ E.OutsideHeap 2
    ∷ E.Cell (byte m 2 0 70 0x4051800000000000)
    ∷ E.Cell (short m 2 3 0x4008000000000000) ∷ E.Cell (integer m 2 512 0x4080000000000000) ∷ []

-- those of columns 1 and 2: the 13 of column 0 is struck out, and that of column 2 stays
abbrev pub less : Reading → List Entry
less m =
    E.Cell (short m 0 1 0x3FF0000000000000) ∷ E.Cell (integer m 0 256 0x4070000000000000)
    ∷ E.Cell (short m 1 2 0x4000000000000000) ∷ E.OutsideHeap 2
    ∷ E.Cell (short m 2 3 0x4008000000000000) ∷ E.Cell (integer m 2 512 0x4080000000000000) ∷ []

-- what reads of all columns hand out before that first 13, those of columns 1 and 2 among them, and what reads of
-- these two hand out behind it
abbrev pub early : Reading → List Cell
early m =
    byte m 0 0 80 0x4054000000000000 ∷ byte m 0 1 90 0x4056800000000000 ∷ short m 0 1 0x3FF0000000000000
    ∷ integer m 0 256 0x4070000000000000 ∷ []

abbrev pub kept : Reading → List Cell
kept m = short m 0 1 0x3FF0000000000000 ∷ integer m 0 256 0x4070000000000000 ∷ []

abbrev pub late : Reading → List Cell
late m = short m 1 2 0x4000000000000000 ∷ []

-- ---- what is shown of it

-- in a reading: the entries of all columns and those of the choice, which are the struck-out ones; the answers of cell
-- reads of each cursor; the cells that enough of them hand out; and how those of the choice come about
abbrev pub NarrowReading : How → Type 0
NarrowReading how =
    let m = how.reading in
    (table_entries table area all_columns true how ≡ full m)
    × (table_entries table area selection true how ≡ less m)
    × (struck (wanted selection) (full m) ≡ less m)
    × (cell_replies table area how 6 all_cursor ≡ map got_cell (early m) ++ (refused 13 0 ∷ refused 13 0 ∷ []))
    × (cell_replies table area how 5 cursor ≡ map got_cell (kept m ++ late m) ++ (refused 13 2 ∷ refused 13 2 ∷ []))
    × (cells_in (cell_replies table area how 10 all_cursor) ≡ early m)
    × (cells_in (cell_replies table area how 10 cursor) ≡ kept m ++ late m)
    × (struck_cells (wanted selection) (early m) ≡ kept m)
    × (cells_before_13 (struck (wanted selection) (behind_13 (wanted selection) (full m))) ≡ late m)

-- the entry accepts the header and the area, opening gives the two cursors, and reads go so in both readings
pub record ReadsNarrow : Type 0 where
  pub entered : entry header area ≡ accepted table
  pub opening : open_with table area selection true ≡ opened cursor
  pub opening_all : open_with table area all_columns true ≡ opened all_cursor
  pub readings : (m : Reading) → NarrowReading (record { reading = m })

enters : entry header area ≡ accepted table
unfolding computed header area
enters = refl

opens : open_with table area selection true ≡ opened cursor
unfolding computed_run area
opens = refl

opens_all : open_with table area all_columns true ≡ opened all_cursor
unfolding computed_run area
opens_all = refl

reads : (m : Reading) → NarrowReading (record { reading = m })
unfolding computed_run area cells_before_13 behind_13
reads Plain = (refl, refl, refl, refl, refl, refl, refl, refl, refl)
reads Scaled = (refl, refl, refl, refl, refl, refl, refl, refl, refl)

-- all of it
pub reads_narrow : ReadsNarrow
reads_narrow = record { entered = enters; opening = opens; opening_all = opens_all; readings = reads }

-- the premises of `narrow_cells` are met by these two cursors, with something behind the first 13
pub narrow_instance : (m : Reading) → let how : How = record { reading = m } in
    cells_in (cell_replies table area how 10 cursor)
    ≡ struck_cells (wanted selection) (cells_in (cell_replies table area how 10 all_cursor))
    ++ cells_before_13 (struck (wanted selection) (behind_13 (wanted selection) (full m)))
narrow_instance m =
    let how : How = record { reading = m } in
    let q = reads m in
    let few : length (table_entries table area selection true how) ≤ 10 = rw q.1 (omega arith) in
    let low : length (table_entries table area all_columns true how) ≤ 10 = rw q.0 (omega arith) in
    rw q.0 at
    (narrow_cells header area table enters selection true cursor all_cursor opens opens_all how 10 10 few low)
