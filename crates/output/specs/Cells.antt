-- What `cells` prints (FORMAT.md, section 16).
-- Assumes nothing.
use Rattle.std.specs.Prelude.{ℕ, zero, suc, ◌+◌, min, true, List, [], ◌∷◌, ◌++◌}
use Rattle.header.specs.Records.{header_of, data_of}
use Rattle.refusal.specs.Refusal as H
use Rattle.layout.specs.declared.BinTable.{BinTable}
use Rattle.bintable.specs.Entry as B
use Rattle.walk.specs.declared.Entry.{Entry}
use Rattle.walk.specs.declared.Entry.TheVariants as E
use Rattle.walk.specs.Plain.{row_entries}
use Rattle.walk.specs.Walk.{stop, entries_from}
use Rattle.walk.specs.Step.{all_columns, choice_of, open_with}
use Rattle.listing.specs.Lines.{table_line, column_line, cell_line, end_line, refused_line}

-- how many bytes of a file are looked at: the programs take the first of them
abbrev pub file_limit : ℕ
file_limit = 65536

-- the lines of some entries where n cells are shown already: a line a cell, then the end with the cells shown; at a 13 the refusal in place of what
-- would follow. The count is the cursor's, with its stop
unfoldable pub entry_lines : ℕ → List Entry → List (List ℕ)
entry_lines n [] = end_line n ∷ []
entry_lines n (E.Cell x ∷ es) = cell_line x ∷ entry_lines (min stop (n + 1)) es
entry_lines n (E.OutsideHeap k ∷ es) = refused_line 13 k ∷ []

-- the lines of n columns from column c on
unfoldable pub column_lines : List ℕ → BinTable → ℕ → ℕ → List (List ℕ)
column_lines h l c zero = []
column_lines h l c (suc n) = column_line h l c ∷ column_lines h l (suc c) n

-- after them, by what opening comes to: every entry of every row, or the refusal
abbrev pub opened_lines : BinTable → List ℕ → H.Outcome → List (List ℕ)
opened_lines l a H.accepted = entry_lines 0 (entries_from (row_entries l a (choice_of l all_columns) true) l.naxis2 0 l.naxis2)
opened_lines l a (H.refused n p) = refused_line n p ∷ []

-- all columns are opened, with the heap on
abbrev pub after_columns : BinTable → List ℕ → List (List ℕ)
after_columns l a = opened_lines l a (open_with l a all_columns true).outcome

-- by what the entry answers
abbrev pub entry_output : List ℕ → List ℕ → B.Entry → List (List ℕ)
entry_output h a (B.accepted l) = table_line l ∷ (column_lines h l 0 l.tfields ++ after_columns l a)
entry_output h a (B.refused n p) = refused_line n p ∷ []

-- the lines that `cells` prints of a file
abbrev pub cells_lines : List ℕ → List (List ℕ)
cells_lines f = entry_output (header_of f) (data_of f) (B.entry (header_of f) (data_of f))
