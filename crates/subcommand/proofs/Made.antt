-- What is printed for a subcommand is what is made of its table.
-- Assumes nothing.
use Rattle.std.proofs.Common.{ℕ, ◌≡◌, List, refl}
use Rattle.std.specs.Prelude.{Option, Some}
use Rattle.subcommand.specs.declared.Subcommand.{Subcommand}
use Rattle.subcommand.specs.declared.Subcommand.TheVariants as S
use Rattle.subcommand.specs.Arguments.{asked_by, table_of}
use Rattle.subcommand.specs.Printed.{of_table, printed}
use Rattle.subcommand.specs.Ways.{made_by}

pub made_printed : (s : Subcommand) (file : Option (List ℕ))
    → of_table (made_by s) (table_of s) file ≡ printed (asked_by (Some s)) (λ name. file)
made_printed (S.Turn table) file = refl
made_printed (S.TurnBack table) file = refl
made_printed (S.Page table column row edition) file = refl
