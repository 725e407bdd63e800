-- The request's example, from the bytes of its file to its eight lines.
-- Assumes nothing.
use Prim.Native.Nat.{ℕ}
use Prim.Native.String.{String}
use mathlib.Core.Path.{◌≡◌, refl, ap}
use mathlib.Core.List.{List, [], ◌∷◌, ◌++◌}
use lib.Seq.{take_at, drop_at}
use Rattle.ascii.specs.Text.{bytes, same, spaces}
use Rattle.card.specs.Record.{card_at, is_end}
use Rattle.keyword.specs.Names.{range}
use Rattle.header.specs.Records.{records, has_end, before_end, header_len, header_of, data_of}
use Rattle.tform.specs.Width.{among, letter_width}
use Rattle.layout.specs.Names.{part_of, column_name}
use Rattle.bintable.specs.Entry as B
use Rattle.cell.specs.Item.{word, item}
use Rattle.cell.specs.Field.{field}
use Rattle.walk.specs.Plain.{field_of, cells, entries_of, chosen, column_entries, columns_entries, row_entries}
use Rattle.walk.specs.Walk.{entries_from}
use Rattle.walk.specs.Step.{choice_from, Opening}
use Rattle.walk.proofs.Examples.{area}
use Rattle.header.proofs.Texts.{padded}
use Rattle.walk.proofs.Together.{header, one_block, table, enters, opens}
use Rattle.ascii.specs.Number.{decimal_in}
use Rattle.listing.specs.Lines.{line, table_line, column_line, cell_line, end_line}
use Rattle.output.specs.Cells.{entry_lines, column_lines, entry_output, cells_lines}

-- the bytes of the file
abbrev pub file : List ℕ
file = header ++ area

-- a line: its text and a line feed
abbrev pub text : String → List ℕ
text s = bytes s ++ (10 ∷ [])

header_length : header_len file ≡ 2880
unfolding header_len records has_end before_end header padded bytes range card_at is_end same spaces
header_length = refl

parts : (header_of file ≡ header) × (data_of file ≡ area)
parts = (rw header_length (take_at header area 2880 one_block), rw header_length (drop_at header area 2880 one_block))

unfoldable pub eight : List (List ℕ)
eight =
    text "table 2 columns 2 rows 6 bytes"
    ∷ text "column 0 I 1 at 0 POS"
    ∷ text "column 1 J 1 at 2 WT"
    ∷ text "cell 0 0 0 1"
    ∷ text "cell 0 1 0 8000"
    ∷ text "cell 1 0 0 -1"
    ∷ text "cell 1 1 0 42"
    ∷ text "end 4"
    ∷ []

lines : entry_output header area (B.accepted table) ≡ eight
unfolding eight line table_line column_line cell_line end_line decimal_in bytes column_lines entry_lines column_name part_of header padded table entries_from row_entries columns_entries column_entries chosen choice_from field_of field entries_of cells item word letter_width among
lines = rw (ap (λ (o : Opening). o.outcome) opens)

-- what `cells` prints of it
pub eight_lines : cells_lines file ≡ eight
eight_lines = rw (parts.0, parts.1, enters) lines
