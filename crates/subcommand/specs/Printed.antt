-- What a run of `coentrift` prints (FORMAT.md, section 19): a function of its arguments and of the files that they
-- name.
-- Assumes nothing.
use Rattle.std.specs.Prelude.{ℕ, cond, List, [], ◌++◌, length, take, ltb, Option, Some, None}
use Rattle.refusal.specs.Refusal.{cause_of}
use Rattle.layout.specs.declared.BinTable.{BinTable}
use Rattle.layout.specs.Names.{find_name}
use Rattle.bintable.specs.Entry.{Entry, accepted, refused, entry}
use Rattle.header.specs.Records.{header_of, data_of}
use Rattle.words.specs.Words.{words_text}
use Rattle.listing.specs.Lines.{refused_line}
use Rattle.turn.specs.Turn as T
use Rattle.profile.specs.Page as P
use Rattle.subcommand.specs.declared.answers.Answer.{Answer}
use Rattle.subcommand.specs.Arguments.{ColumnArgument, at_index, named, Asked, turn, turn_back, page, wrong, asked}
use Rattle.subcommand.specs.Message.{usage_text, long_file_text, unread_text, refused_text, page_words, message_text}

-- standard output, standard error and the status
pub record Printed : Type 0 where
  pub out : List ℕ
  pub err : List ℕ
  pub status : ℕ

-- the most bytes of a table's file, and of a page
abbrev pub table_limit : ℕ
table_limit = 2097152

abbrev pub page_limit : ℕ
page_limit = 4194304

-- all was done
abbrev pub done : List ℕ → Printed
done text = record { out = text; err = []; status = 0 }

-- a refusal: its line alone, and its words on standard error
abbrev pub refused_by : List ℕ → ℕ → ℕ → Printed
refused_by words n p = record { out = refused_line n p; err = refused_text (cause_of n p) words; status = 1 }

-- ---- the table in a file

-- what is made of it, by what the entry says
abbrev pub by_entry : (BinTable → List ℕ → Printed) → List ℕ → Entry → Printed
by_entry made file (accepted l) = made l file
by_entry made file (refused n p) = refused_by (words_text (cause_of n p) file) n p

abbrev pub of_file : (BinTable → List ℕ → Printed) → List ℕ → Printed
of_file made file = by_entry made file (entry (header_of file) (data_of file))

-- by the file as it was read; one that cannot be read counts as empty
abbrev pub of_table : (BinTable → List ℕ → Printed) → List ℕ → Option (List ℕ) → Printed
of_table made name (Some file) =
    cond (ltb table_limit (length file)) (record { out = []; err = long_file_text name; status = 1 })
    (of_file made file)
of_table made name None =
    let empty = of_file made [] in
    record { out = empty.out; err = unread_text name ++ empty.err; status = empty.status }

-- ---- by what is asked for

-- the header as it is, then the data turned, or turned back
abbrev pub turned_file : BinTable → List ℕ → List ℕ
turned_file l file = header_of file ++ T.turned l.naxis2 l.naxis1 (data_of file)

abbrev pub turned_back_file : BinTable → List ℕ → List ℕ
turned_back_file l file = header_of file ++ T.turned_back l.naxis2 l.naxis1 (data_of file)

abbrev pub writes : (BinTable → List ℕ → List ℕ) → BinTable → List ℕ → Printed
writes made l file = done (made l file)

-- the column that is sought, if there is one: an index is taken as it is
abbrev pub found_column : List ℕ → BinTable → ColumnArgument → Option ℕ
found_column header l (at_index c) = Some c
found_column header l (named s) = find_name header l s

-- by what the call answers
abbrev pub by_reply : List ℕ → (ℕ → ℕ → List ℕ) → P.Reply → Printed
by_reply text words (P.wrote n) = done text
by_reply text words (P.refused n p) = refused_by (words n p) n p

-- the page of the column that was found; where there is none, a refusal
abbrev pub page_of : ℕ → ℕ → BinTable → List ℕ → Option ℕ → Printed
page_of row edition l file None = refused_by (page_words l file None edition (cause_of 15 0)) 15 0
page_of row edition l file (Some c) =
    by_reply (P.page_in l (data_of file) c row (P.edition_of edition))
    (λ n p. page_words l file (Some c) edition (cause_of n p))
    (P.page_reply l (data_of file) c row edition page_limit)

abbrev pub page_made : ColumnArgument → ℕ → ℕ → BinTable → List ℕ → Printed
page_made column row edition l file = page_of row edition l file (found_column (header_of file) l column)

-- `files` gives the bytes of a file by its name, and None for one that cannot be read
abbrev pub printed : Asked → (List ℕ → Option (List ℕ)) → Printed
printed (turn name) files = of_table (writes turned_file) name (files name)
printed (turn_back name) files = of_table (writes turned_back_file) name (files name)
printed (page name column row edition) files = of_table (page_made column row edition) name (files name)
printed wrong files = record { out = []; err = usage_text; status = 2 }

-- a whole run
abbrev pub run : List (List ℕ) → (List ℕ → Option (List ℕ)) → Printed
run args files = printed (asked args) files

-- what the code's answer says, with what its buffer holds
abbrev pub printed_by : Answer → List ℕ → Printed
printed_by a out = record { out = take a.len out; err = message_text a.message; status = a.status }
