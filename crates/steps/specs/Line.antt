-- What a line of a file of steps says (FORMAT.md, section 17).
-- Assumes nothing.
use Rattle.std.specs.Prelude.{ℕ, Bool, true, false, cond, List, [], ◌∷◌, length, take, drop, set, leb, Option, Some, None}
use Prim.Native.String.{String}
use Rattle.ascii.specs.Text.{bytes, same}
use Rattle.walk.specs.declared.How.{How}
use Rattle.walk.specs.Scaled.{plain, scaled}
use Rattle.steps.specs.declared.Command.{Command}
use Rattle.steps.specs.declared.Command.TheVariants as C
use Rattle.steps.specs.Split.{parts, before}
use Rattle.ascii.specs.Number.{number}
use Rattle.steps.specs.Numbers.{Numbers, all_of, not_all, numbers}

-- what a line says
pub data Says : Type 0 where
  choose_all : Says
  choose : List ℕ → Says
  heap : Bool → Says
  cell : How → Says
  row : How → ℕ → Says
  seek : ℕ → Says
  bad : Says

-- the most cells of a row read's list
abbrev pub row_limit : ℕ
row_limit = 512

abbrev pub cell_by : Option How → Says
cell_by (Some how) = cell how
cell_by None = bad

abbrev pub row_by : Option ℕ → Option How → Says
row_by (Some n) (Some how) = cond (leb n row_limit) (row how n) bad
row_by (Some n) None = bad
row_by None how = bad

abbrev pub seek_by : Option ℕ → Says
seek_by (Some n) = seek n
seek_by None = bad

abbrev pub choose_by : Numbers → Says
choose_by (all_of ns) = choose ns
choose_by not_all = bad

-- the line is these bytes
abbrev pub is : String → List ℕ → Bool
is w s = same s (bytes w)

-- the line begins with these bytes
abbrev pub begins : String → List ℕ → Bool
begins w s = same (take (length (bytes w)) s) (bytes w)

-- the reading, by what stands after `cell` or after the N of `row N`: nothing, or a space and the word `scaled`
unfoldable pub how_of : List ℕ → Option How
how_of s = cond (is "" s) (Some plain) (cond (is " scaled" s) (Some scaled) None)

-- `row` with this after it: N goes up to the first space
abbrev pub row_words : List ℕ → Says
row_words s = row_by (number (take (before 32 s) s)) (how_of (drop (before 32 s) s))

-- anything else, an empty line too, is a bad line. `parts` are never none, so there is one index or more
unfoldable pub says : List ℕ → Says
says s =
    cond (begins "cell" s) (cell_by (how_of (drop 4 s)))
    (cond (begins "row " s) (row_words (drop 4 s))
    (cond (begins "seek " s) (seek_by (number (drop 5 s)))
    (cond (is "choose all" s) choose_all
    (cond (begins "choose " s) (choose_by (numbers (parts (drop 7 s))))
    (cond (is "heap on" s) (heap true)
    (cond (is "heap off" s) (heap false) bad))))))

-- what it says as the code has it, without the indexes; none for a bad line
abbrev pub command_of : Says → Option Command
command_of choose_all = Some C.ChooseAll
command_of (choose ns) = Some C.Choose
command_of (heap on) = Some (C.Heap on)
command_of (cell how) = Some (C.Cell how)
command_of (row how n) = Some (C.Row how n)
command_of (seek r) = Some (C.Seek r)
command_of bad = None

-- the indexes that a line chooses; none where it is no such line
abbrev pub indexes_of : Says → List ℕ
indexes_of choose_all = []
indexes_of (choose ns) = ns
indexes_of (heap on) = []
indexes_of (cell how) = []
indexes_of (row how n) = []
indexes_of (seek r) = []
indexes_of bad = []

-- the list with each index at the place that it names; one that names no place is left out
unfoldable pub in_places : List ℕ → List ℕ → List ℕ
in_places list [] = list
in_places list (n ∷ ns) = in_places (set list n n) ns
