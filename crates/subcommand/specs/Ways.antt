-- The two calls of `turn`, as the private functions choose between them, and what is made of a table by what the code
-- is asked for.
-- Assumes nothing.
use Rattle.std.specs.Prelude.{ℕ, List, [], Option, Some, None}
use Rattle.ascii.specs.Buffer.{put_in}
use Rattle.layout.specs.declared.BinTable.{BinTable}
use Rattle.turn.specs.Turn.{turned, turned_back}
use Rattle.profile.specs.Page as P
use Rattle.subcommand.specs.declared.answers.Way.{Way}
use Rattle.subcommand.specs.declared.answers.Way.TheVariants as W
use Rattle.subcommand.specs.declared.Subcommand.{Subcommand}
use Rattle.subcommand.specs.declared.Subcommand.TheVariants as S
use Rattle.subcommand.specs.Arguments.{sought_by}
use Rattle.subcommand.specs.Printed.{Printed, writes, turned_file, turned_back_file}
use Rattle.subcommand.specs.Printed.{page_limit, page_made}

-- what a call makes of a data area
abbrev pub area_by : Way → BinTable → List ℕ → List ℕ
area_by W.Turn l area = turned l.naxis2 l.naxis1 area
area_by W.TurnBack l area = turned_back l.naxis2 l.naxis1 area

-- and of a file
abbrev pub file_by : Way → BinTable → List ℕ → List ℕ
file_by W.Turn l file = turned_file l file
file_by W.TurnBack l file = turned_back_file l file

-- the call's answer for a column that may not be there, and its page
abbrev pub reply_for : BinTable → List ℕ → Option ℕ → ℕ → ℕ → P.Reply
reply_for l a None r edition = P.refused 15 0
reply_for l a (Some c) r edition = P.page_reply l a c r edition page_limit

abbrev pub page_for : BinTable → List ℕ → Option ℕ → ℕ → ℕ → List ℕ
page_for l a None r edition = []
page_for l a (Some c) r edition = P.page_in l a c r (P.edition_of edition)

-- the buffer after a page is put to its front, or refused
abbrev pub left_for : BinTable → List ℕ → Option ℕ → ℕ → ℕ → List ℕ → List ℕ
left_for l a c r edition out =
    P.left_by (reply_for l a c r edition) (put_in out 0 (page_for l a c r edition)) out

-- what is printed of an accepted table
abbrev pub made_by : Subcommand → BinTable → List ℕ → Printed
made_by (S.Turn table) = writes turned_file
made_by (S.TurnBack table) = writes turned_back_file
made_by (S.Page table column row edition) = page_made (sought_by column) row edition
