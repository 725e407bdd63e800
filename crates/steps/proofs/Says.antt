-- What a line can say: a row read's list is short, and which lines choose indexes.
-- Assumes nothing.
use Rattle.std.specs.Prelude.{Option, Some, None}
use mathlib.Core.Path.{◌≡◌, refl, sym, ap, subst, ◌∙◌}
use mathlib.Core.List.{List, [], ◌++◌}
use mathlib.Core.Bool.{true, false}
use Prim.Native.Nat.{ℕ, ◌≤◌}
use lib.ListN.{take, drop, take-append-drop}
use lib.Dec.{leb}
use borrow.Author.Tests.{leb-true}
use Rattle.ascii.specs.Text.{bytes, same, front}
use Rattle.ascii.proofs.Cases.{by_test, either}
use Rattle.ascii.proofs.Same.{same_true}
use Rattle.walk.specs.declared.How.{How}
use Rattle.steps.specs.declared.Command.{Command}
use Rattle.steps.specs.declared.Command.TheVariants as C
use Rattle.steps.specs.Split.{parts, before}
use Rattle.ascii.specs.Number.{number}
use Rattle.steps.specs.Numbers.{Numbers, all_of, not_all, numbers}
use Rattle.steps.specs.Line.{Says, cell_by, row_by, row_words, how_of, seek_by, choose_by, is, begins, says, command_of, indexes_of}

-- the bound of a row's cells
abbrev RowOk : Option Command → Type 0
RowOk (Some C.ChooseAll) = Unit {0}
RowOk (Some C.Choose) = Unit {0}
RowOk (Some (C.Heap on)) = Unit {0}
RowOk (Some (C.Cell how)) = Unit {0}
RowOk (Some (C.Row how n)) = n ≤ 512
RowOk (Some (C.Seek r)) = Unit {0}
RowOk None = Unit {0}

cell_by_lem : (h : Option How) → RowOk (command_of (cell_by h))
cell_by_lem (Some how) = tt
cell_by_lem None = tt

row_by_lem : (f : Option ℕ) (h : Option How) → RowOk (command_of (row_by f h))
row_by_lem (Some n) None = tt
row_by_lem (Some n) (Some how) = by_test (λ (x : Says). RowOk (command_of x)) (leb n 512) (λ t. leb-true n 512 t) (λ t. tt)
row_by_lem None h = tt

row_words_lem : (s : List ℕ) → RowOk (command_of (row_words s))
row_words_lem s = row_by_lem (number (take (before 32 s) s)) (how_of (drop (before 32 s) s))

seek_by_lem : (f : Option ℕ) → RowOk (command_of (seek_by f))
seek_by_lem (Some n) = tt
seek_by_lem None = tt

choose_by_lem : (r : Numbers) → RowOk (command_of (choose_by r))
choose_by_lem (all_of ns) = tt
choose_by_lem not_all = tt

row_ok : (s : List ℕ) → RowOk (command_of (says s))
unfolding says
row_ok s =
    let P : Says → Type 0 = λ (x : Says). RowOk (command_of x) in
    by_test P (begins "cell" s) (λ _. cell_by_lem (how_of (drop 4 s)))
    (λ _. by_test P (begins "row " s) (λ _. row_words_lem (drop 4 s))
    (λ _. by_test P (begins "seek " s) (λ _. seek_by_lem (number (drop 5 s)))
    (λ _. by_test P (is "choose all" s) (λ _. tt)
    (λ _. by_test P (begins "choose " s) (λ _. choose_by_lem (numbers (parts (drop 7 s))))
    (λ _. by_test P (is "heap on" s) (λ _. tt)
    (λ _. by_test P (is "heap off" s) (λ _. tt) (λ _. tt)))))))

pub row_few : (s : List ℕ) (how : How) (n : ℕ) → command_of (says s) ≡ Some (C.Row how n) → n ≤ 512
row_few s how n e = subst RowOk e (row_ok s)

-- the indexes of a line that begins as a choice
chosen_all : (t : List ℕ) → same t (bytes "all") ≡ true → indexes_of (choose_by (numbers (parts t))) ≡ []
unfolding bytes numbers number parts front
chosen_all t e = rw (same_true t (bytes "all") e)

chosen_is : (t : List ℕ) → indexes_of (says (bytes "choose " ++ t)) ≡ indexes_of (choose_by (numbers (parts t)))
unfolding says bytes same
chosen_is t = either (same t (bytes "all")) (λ e. rw (e, chosen_all t e)) (λ e. rw e)

module _ (s : List ℕ) where
  pub indexes_choose : begins "choose " s ≡ true → indexes_of (says s) ≡ indexes_of (choose_by (numbers (parts (drop 7 s))))
  unfolding bytes
  indexes_choose e =
      ap (λ (l : List ℕ). indexes_of (says l))
      (sym (take-append-drop 7 s) ∙ ap (λ (l : List ℕ). l ++ drop 7 s) (same_true (take 7 s) (bytes "choose ") e))
      ∙ chosen_is (drop 7 s)

  cells_none : (h : Option How) → indexes_of (cell_by h) ≡ []
  cells_none (Some how) = refl
  cells_none None = refl

  rows_none : (f : Option ℕ) (h : Option How) → indexes_of (row_by f h) ≡ []
  rows_none (Some n) None = refl
  rows_none (Some n) (Some how) = by_test (λ (x : Says). indexes_of x ≡ []) (leb n 512) (λ _. refl) (λ _. refl)
  rows_none None h = refl

  seeks_none : (f : Option ℕ) → indexes_of (seek_by f) ≡ []
  seeks_none (Some n) = refl
  seeks_none None = refl

  pub indexes_other : begins "choose " s ≡ false → indexes_of (says s) ≡ []
  unfolding says
  indexes_other e =
      let P : Says → Type 0 = λ (x : Says). indexes_of x ≡ [] in
      rw e
      (by_test P (begins "cell" s) (λ _. cells_none (how_of (drop 4 s)))
      (λ _. by_test P (begins "row " s) (λ _. let t = drop 4 s in rows_none (number (take (before 32 t) t)) (how_of (drop (before 32 t) t)))
      (λ _. by_test P (begins "seek " s) (λ _. seeks_none (number (drop 5 s)))
      (λ _. by_test P (is "choose all" s) (λ _. refl)
      (λ _. by_test P (is "heap on" s) (λ _. refl)
      (λ _. by_test P (is "heap off" s) (λ _. refl) (λ _. refl)))))))
