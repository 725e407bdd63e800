-- The bytes of a table by their place in a row (FORMAT.md, section 18).
-- Assumes nothing.
use Rattle.std.specs.Prelude.{ℕ, ◌+◌, ◌*◌, ◌&&◌, cond, List, ◌++◌, length, get_or, map, drop, eqb, leb}
use mathlib.Core.List.{flat_map}
use Rattle.std.specs.List.{range_with_len}
use Rattle.layout.specs.declared.BinTable.{BinTable}
use Rattle.layout.specs.Layout.{data_size, layout_ok}
use Rattle.refusal.specs.Refusal.{Outcome, accepted, refused}

-- byte p of each row of a table, from row 0 on
abbrev pub at_place : ℕ → ℕ → List ℕ → ℕ → List ℕ
at_place rows width area p = map (λ (r : ℕ). get_or area (r * width + p) 0) (range_with_len 0 rows)

-- a data area turned: the bytes at place 0 of all rows, then those at place 1, and so on, so that byte p of row r goes
-- to p * rows + r; then what stands after the main size, as it was
unfoldable pub turned : ℕ → ℕ → List ℕ → List ℕ
turned rows width area = flat_map (at_place rows width area) (range_with_len 0 width) ++ drop (rows * width) area

-- and back: the turned bytes are a table of `width` rows, one for each place, and each has a byte for each row of the
-- first table
abbrev pub turned_back : ℕ → ℕ → List ℕ → List ℕ
turned_back rows width area = turned width rows area

-- what both calls come to: the layout first, then the buffers, which have one length, and the table's bytes within it
unfoldable pub turn_outcome : BinTable → List ℕ → List ℕ → Outcome
turn_outcome l from to =
    cond (layout_ok l)
    (cond (eqb (length from) (length to) && leb (data_size l) (length from)) accepted (refused 22 0))
    (refused 10 0)

-- a buffer after a call: what the call writes, or what the buffer held where it refuses
abbrev pub left_by : Outcome → List ℕ → List ℕ → List ℕ
left_by accepted written held = written
left_by (refused n p) written held = held

abbrev pub turn_left : BinTable → List ℕ → List ℕ → List ℕ
turn_left l from to = left_by (turn_outcome l from to) (turned l.naxis2 l.naxis1 from) to

abbrev pub turn_back_left : BinTable → List ℕ → List ℕ → List ℕ
turn_back_left l from to = left_by (turn_outcome l from to) (turned_back l.naxis2 l.naxis1 from) to
