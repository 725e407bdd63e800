-- A table with factors and zeros, whole: from the bytes of its header and of its data area, by the entry, the opening and
-- steps that mix both readings, to the cells.
-- Assumes nothing.
use Prim.Native.Nat.{ℕ}
use mathlib.Core.Path.{refl}
use mathlib.Core.Bool.{true}
use mathlib.Core.List.{List, [], ◌∷◌}
use lib.ListN.{replicate}
use lib.IntN.{pos, negsuc}
use Rattle.std.specs.Float.{binary32, binary64}
use Rattle.std.specs.Float.Ieee.{of_bits}
use Rattle.bintable.proofs.ScaledHeaders.{header, table, area, enters}
use Rattle.cell.specs.declared.DataValue.{DataValue}
use Rattle.cell.specs.declared.DataValue.TheVariants as D
use Rattle.cell.specs.declared.Cell.{Cell}
use Rattle.cell.specs.Item.{blank_cell}
use Rattle.walk.specs.declared.TableData.{TableData}
use Rattle.walk.specs.Plain.{cell_of}
use Rattle.walk.specs.Scaled.{plain, scaled}
use Rattle.walk.specs.Walk.{Step, read_cell, read_row, seek, Reply, got_cell, got_row, sought, at_end, start}
use Rattle.walk.specs.Step.{cursor_at}
use Rattle.walk.proofs.Computed.{computed_run, ReadAs}

-- the cursor on both columns with the heap on
abbrev cursor : TableData
cursor = cursor_at 3 true start

abbrev steps : List Step
steps =
    read_cell scaled ∷ read_cell plain ∷ read_row scaled (replicate 3 blank_cell) ∷ read_cell scaled ∷ seek 0 ∷ read_cell plain ∷ read_cell scaled
    ∷ seek 1 ∷ read_row plain (replicate 2 blank_cell) ∷ []

abbrev float : ℕ → DataValue
float bits = D.Float (of_bits binary32 bits) bits

abbrev double : ℕ → DataValue
double bits = D.Double (of_bits binary64 bits) bits

-- 1 and 32768 are 32769, and 2 times 1.5 and 0.25 are 3.25
abbrev replies : List Reply
replies =
    got_cell (cell_of 0 0 0 (D.UnsignedLong 32769)) ∷ got_cell (cell_of 0 1 0 (float 0x3FC00000)) ∷ got_row 2 ∷ at_end ∷ sought
    ∷ got_cell (cell_of 0 0 0 (D.Short (pos 1))) ∷ got_cell (cell_of 0 1 0 (double 0x400A000000000000)) ∷ sought ∷ got_row 2 ∷ []

-- what the two lists hold: -1 and 32768 are 32767, and a NaN has the bits 7FF8000000000000 (hex)
abbrev lists : List (List Cell)
lists =
    [] ∷ [] ∷ (cell_of 1 0 0 (D.UnsignedLong 32767) ∷ cell_of 1 1 0 (double 0x7FF8000000000000) ∷ blank_cell ∷ []) ∷ [] ∷ [] ∷ [] ∷ [] ∷ []
    ∷ (cell_of 1 0 0 (D.Short (negsuc 0)) ∷ cell_of 1 1 0 (float 0x7FA00001) ∷ []) ∷ []

-- the table of bintable/proofs/ScaledHeaders, in both readings
pub reads_scaled : ReadAs header area table cursor steps replies lists
unfolding computed_run table
reads_scaled = record { entered = enters; opening = refl; reply = refl; list = refl }
