-- The program reads 2,097,153 bytes of a file at most: a longer one is told by them.
-- Assumes nothing.
use Rattle.std.proofs.Common.{ℕ, ◌≡◌, ◌+◌, true, false, List, length, take, refl, arith, length-take}
use Rattle.std.proofs.lemmas.List.{take_all}
use Rattle.std.specs.Prelude.{Option, Some, None, ltb}
use borrow.Author.Tests.{lt-ltb, ltb-true, ltb-false}
use Rattle.ascii.proofs.Cases.{either}
use Rattle.layout.specs.declared.BinTable.{BinTable}
use Rattle.subcommand.specs.Arguments.{Asked, turn, turn_back, page, wrong, asked}
use Rattle.subcommand.specs.Printed.{Printed, table_limit, writes, of_table, turned_file, turned_back_file}
use Rattle.subcommand.specs.Printed.{page_made, printed, run}

-- a file as it is read, with a byte more than it may have
abbrev pub cut : Option (List ℕ) → Option (List ℕ)
cut (Some f) = Some (take (table_limit + 1) f)
cut None = None

-- a file that is longer than it may be stays so, and any other is not cut
module _ (f : List ℕ) where
  cut_longer : ltb table_limit (length f) ≡ true → ltb table_limit (length (take (table_limit + 1) f)) ≡ true
  cut_longer e =
      lt-ltb table_limit (length (take (table_limit + 1) f))
      (simp length-take (omega (arith, ltb-true table_limit (length f) e)))

  cut_all : ltb table_limit (length f) ≡ false → take (table_limit + 1) f ≡ f
  cut_all e = take_all (table_limit + 1) f (omega (arith, ltb-false table_limit (length f) e))

file_cut : (made : BinTable → List ℕ → Printed) (name : List ℕ) (file : Option (List ℕ))
    → of_table made name (cut file) ≡ of_table made name file
file_cut made name (Some f) =
    either (ltb table_limit (length f))
    (λ e. rw (e, cut_longer f e) refl)
    (λ e. rw (cut_all f e) refl)
file_cut made name None = refl

printed_cut : (a : Asked) (files : List ℕ → Option (List ℕ)) → printed a (λ name. cut (files name)) ≡ printed a files
printed_cut (turn name) files = file_cut (writes turned_file) name (files name)
printed_cut (turn_back name) files = file_cut (writes turned_back_file) name (files name)
printed_cut (page name column row edition) files = file_cut (page_made column row edition) name (files name)
printed_cut wrong files = refl

pub run_cut : (args : List (List ℕ)) (files : List ℕ → Option (List ℕ))
    → run args (λ name. cut (files name)) ≡ run args files
run_cut args files = printed_cut (asked args) files
