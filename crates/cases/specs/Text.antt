-- The text that `replay` prints (FORMAT.md, section 17).
-- Assumes nothing.
use Rattle.std.specs.Prelude.{ℕ, Bool, ◌≡◌, List, length, take}
use Rattle.ascii.specs.Text.{same}
use Rattle.output.specs.Cells.{file_limit}
use Rattle.output.specs.Replay.{replay_lines}
use Rattle.output.specs.Page.{page_room, lines_text, page_text, page_rest, Whole}

-- of a file f and the steps s, of both the bytes that are looked at
abbrev pub replay_text : List ℕ → List ℕ → List ℕ
replay_text f s = lines_text (replay_lines (take file_limit f) (take file_limit s))

-- whether a text begins with the next page of the lines that are left
abbrev pub begins_page : List ℕ → List (List ℕ) → Bool
begins_page text lines = same (take (length (page_text page_room lines)) text) (page_text page_room lines)

-- the next page of some lines: its length n and the lines after it, where no line is longer than this
pub record IsPage (longest : ℕ) (lines after : List (List ℕ)) (n : ℕ) : Type 0 where
  pub len : n ≡ length (page_text page_room lines)
  pub rest : after ≡ page_rest page_room lines
  pub whole : Whole longest page_room n lines
