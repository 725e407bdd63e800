-- Opening and steps on a table that is given, by computation: `unfolding computed_run` opens all that they go through;
-- and what it is for such a table to be read from its bytes (`ReadAs`).
-- Assumes nothing.
use Prim.Native.Nat.{ℕ}
use mathlib.Core.Path.{◌≡◌}
use mathlib.Core.Bool.{true}
use mathlib.Core.List.{List, map}
use Rattle.std.specs.Float.Ieee.{add, mul, eq, of_int, of_bits, to_bits, round}
use Rattle.ascii.specs.Text.{bytes}
use Rattle.tform.specs.Width.{among, letter_width}
use Rattle.layout.specs.declared.BinTable.{BinTable}
use Rattle.layout.specs.Layout.{columns_ok, layout_ok}
use Rattle.bintable.specs.Entry.{accepted, entry}
use Rattle.cell.specs.declared.Cell.{Cell}
use Rattle.cell.specs.Item.{word, logical, item}
use Rattle.cell.specs.Field.{array, field32, field64, field}
use Rattle.cell.specs.Scaled.{shifts_by}
use Rattle.walk.specs.declared.TableData.{TableData}
use Rattle.walk.specs.Plain.{field_of, cells, entries_of, chosen, column_entries, columns_entries, row_entries}
use Rattle.walk.specs.Walk.{Step, Reply, gather, next, place_ok, entries_from, walk_step}
use Rattle.walk.specs.Step.{all_columns, fits, choice_ok, belongs, choice_from, opened, open_with, StepResult}
use Rattle.walk.specs.Step.{cursor_step, run}

unfoldable pub computed_run : BinTable → List ℕ → TableData → List Step → List StepResult
unfolding add mul eq of_int of_bits to_bits round shifts_by open_with run cursor_step belongs fits layout_ok
    columns_ok choice_ok choice_from place_ok walk_step next gather row_entries columns_entries column_entries entries_of
    entries_from cells chosen field_of field field32 field64 array item logical word letter_width among bytes
computed_run l a c xs = run l a c xs

-- a table that is read: the entry accepts the header and the area with this layout, opening all columns with the heap
-- on gives this cursor, and the steps from there on come to these answers and leave these lists
pub record ReadAs (h a : List ℕ) (l : BinTable) (c : TableData) (xs : List Step) (replies : List Reply)
    (lists : List (List Cell)) : Type 0 where
  pub entered : entry h a ≡ accepted l
  pub opening : open_with l a all_columns true ≡ opened c
  pub reply : map (λ (o : StepResult). o.reply) (run l a c xs) ≡ replies
  pub list : map (λ (o : StepResult). o.list) (run l a c xs) ≡ lists
