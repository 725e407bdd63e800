-- How long a value's text and a line are: what its callers need to know of the room for a line.
-- Assumes nothing.
use Rattle.std.specs.Prelude.{Option, None, Some}
use Prim.Native.Nat.{ℕ, ◌+◌, ◌≤◌, ◌<◌}
use mathlib.Core.Path.{◌≡◌, ap}
use mathlib.Core.List.{List, [], ◌∷◌, ◌++◌}
use native.Mathlib.Omega.{arith}
use lib.Dec.{eqb, ltb}
use lib.ListN.{length, length-append, length-take, length-drop}
use Rattle.ascii.specs.Text.{bytes}
use Rattle.ascii.proofs.Cases.{by_test}
use Rattle.layout.specs.declared.Name.{Name}
use Rattle.layout.specs.declared.BinTable.{BinTable}
use Rattle.layout.specs.Names.{in_header, stretch_of, part_of, column_name}
use Rattle.refusal.specs.Refusal.{number_of, place_of}
use Rattle.cell.specs.declared.Logical.{Logical}
use Rattle.cell.specs.declared.Logical.TheVariants.{Yes, No, Unset, Odd}
use Rattle.cell.specs.declared.DataValue.{DataValue}
use Rattle.cell.specs.declared.DataValue.TheVariants as D
use Rattle.walk.specs.Plain.{column_of}
use Rattle.listing.specs.declared.Line.{Line}
use Rattle.listing.specs.declared.Line.TheVariants as L
use Rattle.ascii.specs.Number.{decimal_text}
use Rattle.listing.specs.Text.{hex_text, two_texts, logical_text, value_text}
use Rattle.listing.specs.Lines.{line, table_line, shown_name, column_line, cell_line, end_line, refused_line, row_line, seek_line, at_end_line, at_line, bad_line, line_text}
use Rattle.ascii.proofs.Lengths.{decimal_length}
use Rattle.listing.proofs.Lengths.{signed_length, hex_length}

-- ---- values

two_decimals : (m n : ℕ) → length (two_texts (decimal_text m) (decimal_text n)) ≤ 41
two_decimals m n = simp length-append (omega (arith, decimal_length m, decimal_length n))

two_hex : (k m n : ℕ) → k ≤ 16 → length (two_texts (hex_text k m) (hex_text k n)) ≤ 41
two_hex k m n h = simp length-append (omega (arith, hex_length k m, hex_length k n))

logical_length : (v : Logical) → length (logical_text v) ≤ 41
unfolding bytes
logical_length Yes = omega arith
logical_length No = omega arith
logical_length Unset = omega arith
logical_length (Odd b) = omega (arith, decimal_length b)

pub value_length : (v : DataValue) → length (value_text v) ≤ 41
unfolding bytes
value_length D.Unset = omega arith
value_length (D.Logical v) = logical_length v
value_length (D.Bit b) = omega (arith, decimal_length b)
value_length (D.UnsignedByte b) = omega (arith, decimal_length b)
value_length (D.Short z) = omega (arith, signed_length z)
value_length (D.Integer z) = omega (arith, signed_length z)
value_length (D.Long z) = omega (arith, signed_length z)
value_length (D.UnsignedLong n) = omega (arith, decimal_length n)
value_length (D.Character b) = omega (arith, decimal_length b)
value_length (D.Float v b) = omega (arith, hex_length 8 b)
value_length (D.Double v b) = omega (arith, hex_length 16 b)
value_length (D.ComplexFloat v b w d) = two_hex 8 b d (omega arith)
value_length (D.ComplexDouble v b w d) = two_hex 16 b d (omega arith)
value_length (D.VariableLengthArray32 n o) = two_decimals n o
value_length (D.VariableLengthArray64 n o) = two_decimals n o

pub value_put : (s w : List ℕ) (v : DataValue) → s ≡ w ++ value_text v → length s ≤ length w + 41
value_put s w v e = omega (arith, ap length e, length-append w (value_text v), value_length v)

-- ---- lines

-- the words, with a byte after each
size : List (List ℕ) → ℕ
size [] = 0
size (w ∷ ws) = length w + (1 + size ws)

line_size : (w : List ℕ) (ws : List (List ℕ)) → length (line (w ∷ ws)) ≡ size (w ∷ ws)
unfolding line size
line_size w [] = simp length-append
line_size w (v ∷ vs) = simp length-append (omega (arith, line_size v vs))

some : (w : List ℕ) (ws : List (List ℕ)) → 0 < length (line (w ∷ ws))
unfolding size
some w ws = omega (arith, line_size w ws)

-- a name is a part of the header
name_length : (h : List ℕ) (l : BinTable) (c : ℕ) → length (column_name h l c) ≤ length h
unfolding column_name part_of
name_length h l c =
    by_test (λ (s : List ℕ). length s ≤ length h) (ltb c l.tfields)
    (λ _. by_test (λ (s : List ℕ). length s ≤ length h) (in_header h (column_of l c).name) (λ _. stretch_length (column_of l c).name) (λ _. omega arith))
    (λ _. omega arith)
  where
    stretch_length : (s : Option Name) → length (stretch_of h s) ≤ length h
    stretch_length None = omega arith
    stretch_length (Some s) = simp (length-take, length-drop) (omega arith)

pub line_some : (h : List ℕ) (l : BinTable) (x : Line) → 0 < length (line_text h l x)
unfolding table_line column_line cell_line end_line refused_line row_line seek_line at_end_line at_line bad_line
line_some h l L.Table = some _ _
line_some h l (L.Column c) = some _ _
line_some h l (L.Cell x) = some _ _
line_some h l (L.End n) = some _ _
line_some h l (L.Refused r) = some _ _
line_some h l (L.Row k) = some _ _
line_some h l (L.Seek r) = some _ _
line_some h l L.AtEnd = some _ _
line_some h l (L.At c) = some _ _
line_some h l (L.BadLine n) = some _ _

shown_length : (n : List ℕ) → length (shown_name n) ≤ length n + 1
unfolding bytes
shown_length n = by_test (λ (s : List ℕ). length s ≤ length n + 1) (eqb (length n) 0) (λ _. omega arith) (λ _. omega arith)

pub line_short : (h : List ℕ) (l : BinTable) (x : Line) → length (line_text h l x) ≤ length h + 128
unfolding table_line column_line cell_line end_line refused_line row_line seek_line at_end_line at_line bad_line bytes size
line_short h l L.Table =
    rw (line_size (bytes "table") (decimal_text l.tfields ∷ bytes "columns" ∷ decimal_text l.naxis2 ∷ bytes "rows" ∷ decimal_text l.naxis1 ∷ bytes "bytes" ∷ []))
    (omega (arith, decimal_length l.tfields, decimal_length l.naxis2, decimal_length l.naxis1))
line_short h l (L.Column c) = rw line_size (omega (arith, decimal_length c, decimal_length (column_of l c).count, decimal_length (column_of l c).start, shown_length (column_name h l c), name_length h l c))
line_short h l (L.Cell x) = rw line_size (omega (arith, decimal_length x.row, decimal_length x.column, decimal_length x.idx, value_length x.value))
line_short h l (L.End n) = rw line_size (omega (arith, decimal_length n))
line_short h l (L.Refused r) = rw line_size (omega (arith, decimal_length (number_of r), decimal_length (place_of r)))
line_short h l (L.Row k) = rw line_size (omega (arith, decimal_length k))
line_short h l (L.Seek r) = rw line_size (omega (arith, decimal_length r))
line_short h l L.AtEnd = rw line_size (omega arith)
line_short h l (L.At c) = rw line_size (omega (arith, decimal_length c.row, decimal_length c.passed, decimal_length c.count))
line_short h l (L.BadLine n) = rw line_size (omega (arith, decimal_length n))
