-- The first lines of a page, as the private functions write them.
-- Assumes nothing.
use Rattle.std.specs.Prelude.{ℕ, ◌+◌, ◌*◌, List}
use Rattle.std.specs.Float.{binary32}
use Rattle.std.specs.Float.Ieee.{of_bits}
use Rattle.std.specs.List.{range_with_len}
use mathlib.Core.List.{flat_map}
use Rattle.cell.specs.Item.{word}
use Rattle.weight.specs.declared.Edition.{Edition}
use Rattle.weight.specs.Weight.{weight_text}
use Rattle.profile.specs.declared.Field.{Field}
use Rattle.profile.specs.Page.{profile_line}

-- the line of item i of a field
abbrev pub line_of : Field → Edition → ℕ → List ℕ
line_of f edition i =
    profile_line f.row i (weight_text edition (of_bits binary32 (word f.area.now (f.at + i * 4) 4)))

-- those of the first n items
abbrev pub lines : Field → Edition → ℕ → List ℕ
lines f edition n = flat_map (line_of f edition) (range_with_len 0 n)
