-- A table with nulls, whole: from the bytes of its header and of its data area, by the entry, the opening and steps that
-- mix both readings, to the cells.
-- Assumes nothing.
use Prim.Native.Nat.{ℕ}
use mathlib.Core.Path.{refl}
use mathlib.Core.Bool.{true}
use mathlib.Core.List.{List, [], ◌∷◌}
use lib.ListN.{replicate}
use lib.IntN.{pos, negsuc}
use Rattle.std.specs.Float.{binary64}
use Rattle.std.specs.Float.Ieee.{of_bits}
use Rattle.bintable.proofs.NullHeaders.{header, table, area, enters}
use Rattle.cell.specs.declared.DataValue.{DataValue}
use Rattle.cell.specs.declared.DataValue.TheVariants as D
use Rattle.cell.specs.declared.Cell.{Cell}
use Rattle.cell.specs.Item.{blank_cell}
use Rattle.walk.specs.declared.TableData.{TableData}
use Rattle.walk.specs.Plain.{cell_of}
use Rattle.walk.specs.Scaled.{plain, scaled}
use Rattle.walk.specs.Walk.{Step, read_cell, read_row, seek, Reply, got_cell, got_row, sought, at_end, start}
use Rattle.walk.specs.Step.{cursor_at}
use Rattle.walk.proofs.Computed.{computed_run, ReadAs}

-- the cursor on all seven columns with the heap on
abbrev cursor : TableData
cursor = cursor_at 127 true start

-- each row in both readings
abbrev steps : List Step
steps =
    read_cell scaled ∷ read_cell plain ∷ read_row scaled (replicate 6 blank_cell)
    ∷ read_row plain (replicate 8 blank_cell) ∷ read_cell scaled ∷ seek 0 ∷ read_row plain (replicate 8 blank_cell)
    ∷ read_row scaled (replicate 7 blank_cell) ∷ []

abbrev double : ℕ → DataValue
double bits = D.Double (of_bits binary64 bits) bits

abbrev replies : List Reply
replies =
    got_cell (cell_of 0 0 0 D.Unset) ∷ got_cell (cell_of 0 1 0 (D.Short (negsuc 0))) ∷ got_row 6 ∷ got_row 7 ∷ at_end
    ∷ sought ∷ got_row 8 ∷ got_row 7 ∷ []

-- row 0 plainly
abbrev first_plain : List Cell
first_plain =
    cell_of 0 0 0 D.Unset ∷ cell_of 0 1 0 (D.Short (negsuc 0)) ∷ cell_of 0 2 0 D.Unset ∷ cell_of 0 3 0 D.Unset
    ∷ cell_of 0 4 0 (D.Long (negsuc 9223372036854775807)) ∷ cell_of 0 5 0 D.Unset ∷ cell_of 0 6 0 D.Unset
    ∷ cell_of 0 6 1 (D.UnsignedByte 8) ∷ []

-- what is left of it after two cells, scaled: -2^63 as a double, and 8 less 128
abbrev first_scaled : List Cell
first_scaled =
    cell_of 0 2 0 D.Unset ∷ cell_of 0 3 0 D.Unset ∷ cell_of 0 4 0 (double 0xC3E0000000000000) ∷ cell_of 0 5 0 D.Unset
    ∷ cell_of 0 6 0 D.Unset ∷ cell_of 0 6 1 (D.Long (negsuc 119)) ∷ []

abbrev second_plain : List Cell
second_plain =
    cell_of 1 0 0 (D.UnsignedByte 254) ∷ cell_of 1 1 0 (D.Short (pos 32767)) ∷ cell_of 1 2 0 (D.Short (pos 1))
    ∷ cell_of 1 3 0 (D.Integer (pos 3)) ∷ cell_of 1 4 0 (D.Long (pos 9223372036854775807))
    ∷ cell_of 1 5 0 (D.Long (negsuc 9223372036854775806)) ∷ cell_of 1 6 0 (D.UnsignedByte 8) ∷ blank_cell ∷ []

-- 254.0, 32767.0, 1 and 32768, twice 3, 2^63 and -2^63 as doubles, and 8 less 128
abbrev second_scaled : List Cell
second_scaled =
    cell_of 1 0 0 (double 0x406FC00000000000) ∷ cell_of 1 1 0 (double 0x40DFFFC000000000)
    ∷ cell_of 1 2 0 (D.UnsignedLong 32769) ∷ cell_of 1 3 0 (double 0x4018000000000000)
    ∷ cell_of 1 4 0 (double 0x43E0000000000000) ∷ cell_of 1 5 0 (double 0xC3E0000000000000)
    ∷ cell_of 1 6 0 (D.Long (negsuc 119)) ∷ []

abbrev lists : List (List Cell)
lists = [] ∷ [] ∷ first_scaled ∷ second_plain ∷ [] ∷ [] ∷ first_plain ∷ second_scaled ∷ []

-- the table of bintable/proofs/NullHeaders, in both readings
pub reads_nulls : ReadAs header area table cursor steps replies lists
unfolding computed_run table
reads_nulls = record { entered = enters; opening = refl; reply = refl; list = refl }
