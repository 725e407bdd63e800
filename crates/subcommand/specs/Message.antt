-- What standard error gets (FORMAT.md, section 19).
-- Assumes nothing.
use Rattle.std.specs.Prelude.{ℕ, List, [], ◌∷◌, ◌++◌, codes, map, Bool, false, ◌||◌, cond, eqb, ltb}
use Rattle.std.specs.Prelude.{Option, Some, None}
use Rattle.std.specs.List.{concat}
use Rattle.ascii.specs.Number.{decimal_text}
use Rattle.refusal.specs.declared.Refusal.{Refusal}
use Rattle.refusal.specs.Refusal.{number_of, place_of}
use Rattle.words.specs.Words.{words_with}
use Rattle.tform.specs.Width.{form_letter}
use Rattle.layout.specs.declared.BinTable.{BinTable}
use Rattle.walk.specs.Plain.{column_of}
use Rattle.subcommand.specs.declared.message.Message.{Message}

-- how the program is used
unfoldable pub usage_text : List ℕ
usage_text =
    codes "usage: coentrift turn TABLE\n"
    ++ codes "       coentrift turn-back TABLE\n"
    ++ codes "       coentrift page TABLE COLUMN ROW EDITION\n"
    ++ codes "\n"
    ++ codes "turn and turn-back write to standard output the header of TABLE as it is, then its\n"
    ++ codes "data. turn puts byte p of row r, both counted from 0, at p x NAXIS2 + r, and leaves\n"
    ++ codes "the bytes after the last row as they are; turn-back takes such a file and puts each\n"
    ++ codes "byte back.\n"
    ++ codes "\n"
    ++ codes "page writes a line for each item of a column of form E in one row: ROW, the item's\n"
    ++ codes "index and its weight, with one decimal in EDITION 1 and two in EDITION 2. Ten stars\n"
    ++ codes "stand for an infinity, a NaN and what takes more than ten places. COLUMN is an index\n"
    ++ codes "if it is all digits, else a name, of which Weight and WEIGHT are the same. Rows,\n"
    ++ codes "columns and items are counted from 0.\n"
    ++ codes "\n"
    ++ codes "TABLE is the file of a binary table extension alone, its header and then its data,\n"
    ++ codes "of 2,097,152 bytes at most. One that cannot be read counts as empty. An argument has\n"
    ++ codes "at most 4,095 bytes, and a subcommand is in small letters. docs/FORMAT.md, sections 18\n"
    ++ codes "to 20, says more.\n"
    ++ codes "\n"
    ++ codes "Status: 0 all was written; 1 the table or the page was refused, or TABLE is too long,\n"
    ++ codes "and standard error says why; 2 the arguments are wrong, memory is lacking, or the\n"
    ++ codes "output cannot be written; 141 whoever read the output has closed it.\n"

-- a file that is missing or cannot be read, by its name
abbrev pub unread_text : List ℕ → List ℕ
unread_text name = codes "coentrift: cannot read '" ++ name ++ codes "', which counts as empty\n"

-- one that is longer than the program takes
abbrev pub long_file_text : List ℕ → List ℕ
long_file_text name = codes "coentrift: '" ++ name ++ codes "' is longer than 2,097,152 bytes\n"

-- a refusal by texts of its number and its place, and in words
abbrev pub refused_with : List ℕ → List ℕ → List ℕ → List ℕ
refused_with number place words =
    concat
    (codes "coentrift: refused " ∷ number ∷ codes " " ∷ place ∷ codes ": " ∷ words ∷ codes "\n" ∷ [])

abbrev pub refused_text : Refusal → List ℕ → List ℕ
refused_text r words = refused_with (decimal_text (number_of r)) (decimal_text (place_of r)) words

-- whether a column that was sought is one of the table's
abbrev pub is_column : BinTable → Option ℕ → Bool
is_column l None = false
is_column l (Some c) = ltb c l.tfields

-- whether its form's letter is E (69)
abbrev pub is_e : BinTable → Option ℕ → Bool
is_e l None = false
is_e l (Some c) = eqb (form_letter (column_of l c).form) 69

-- why there is no page in an edition of a column that was sought
unfoldable pub no_page_text : BinTable → Option ℕ → ℕ → List ℕ
no_page_text l c edition =
    cond (eqb edition 1 || eqb edition 2)
    (cond (is_column l c)
    (cond (is_e l c) (codes "the column has TSCALn or TZEROn, and such a column has no page")
    (codes "the column is not of form E (PE is another form)"))
    (codes "the table has no such column"))
    (codes "there is no edition but 1 and 2")

-- the page has more bytes than the program has room for, by a text of how many those are
abbrev pub long_page_text : List ℕ → List ℕ
long_page_text needed =
    concat
    (codes "the page takes " ∷ needed
    ∷ codes " bytes, 27 a line, and there is room for 155,344 lines" ∷ [])

-- a refusal of a page in words, with a text of its place: 15 and 14, and the others as those of the table
abbrev pub page_words_with : List ℕ → BinTable → List ℕ → Option ℕ → ℕ → Refusal → List ℕ
page_words_with place l file c edition r =
    cond (eqb (number_of r) 15) (no_page_text l c edition)
    (cond (eqb (number_of r) 14) (long_page_text place) (words_with place r file))

-- and with its place in decimal
abbrev pub page_words : BinTable → List ℕ → Option ℕ → ℕ → Refusal → List ℕ
page_words l file c edition r = page_words_with (decimal_text (place_of r)) l file c edition r

-- the pieces of the code's value, one after the other
abbrev pub message_text : Message → List ℕ
message_text m =
    concat (map (λ p. p.now) m.note) ++ (concat (map (λ p. p.now) m.refusal)
    ++ (concat (map (λ p. p.now) m.words) ++ m.end.now))
