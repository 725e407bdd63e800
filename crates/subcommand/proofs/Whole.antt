-- A whole run: what `parse` makes of the arguments and `respond` of that and of the file that it names, as it is read,
-- is `run`.
-- Assumes nothing.
use Rattle.std.proofs.Common.{ℕ, ◌≡◌, true, List, refl, ap, ◌∙◌}
use Rattle.std.specs.Prelude.{Option, Some, None}
use Rattle.std.specs.List.{list_any}
use Rattle.subcommand.specs.declared.Subcommand.{Subcommand}
use Rattle.subcommand.specs.declared.Subcommand.TheVariants as S
use Rattle.subcommand.specs.declared.answers.Answer.{Answer}
use Rattle.subcommand.specs.Arguments.{long_argument, asked, asked_by, table_of}
use Rattle.subcommand.specs.Printed.{printed, printed_by, run}
use Rattle.subcommand.proofs.Cut.{cut, run_cut}

-- arguments of which one is too long, which `parse` is not given, are wrong whatever the others are
pub long_wrong : (args : List (List ℕ)) → list_any long_argument args ≡ true → asked_by None ≡ asked args
unfolding asked
long_wrong args e = rw e refl

-- the file of what is asked for is the one that was read
abbrev pub Reads : (List ℕ → Option (List ℕ)) → Option Subcommand → Option (List ℕ) → Type 0
Reads files (Some s) file = cut (files (table_of s)) ≡ file
Reads files None file = Unit {0}

pub whole_run : (args : List (List ℕ)) (files : List ℕ → Option (List ℕ)) (s : Option Subcommand)
    (file : Option (List ℕ)) (a : Answer) (out : List ℕ)
    → asked_by s ≡ asked args → Reads files s file → printed_by a out ≡ printed (asked_by s) (λ name. file)
    → printed_by a out ≡ run args files
whole_run args files s file a out e r p =
    p ∙ same s r ∙ ap (λ q. printed q (λ name. cut (files name))) e ∙ run_cut args files
  where
    same : (s : Option Subcommand) → Reads files s file
        → printed (asked_by s) (λ name. file) ≡ printed (asked_by s) (λ name. cut (files name))
    same (Some (S.Turn table)) r = rw r refl
    same (Some (S.TurnBack table)) r = rw r refl
    same (Some (S.Page table column row edition)) r = rw r refl
    same None r = refl
