-- What the arguments of `coentrift` ask for (FORMAT.md, section 19).
-- Assumes nothing.
use Rattle.std.specs.Prelude.{ℕ, Bool, cond, ◌&&◌, List, [], ◌∷◌, length, eqb, ltb, Option, Some, None}
use Rattle.std.specs.List.{list_any}
use Rattle.std.specs.Option.{option_map}
use Rattle.ascii.specs.Text.{bytes, same, front, digit}
use Rattle.ascii.specs.Number.{number}
use Rattle.subcommand.specs.declared.SoughtColumn.{SoughtColumn}
use Rattle.subcommand.specs.declared.SoughtColumn.TheVariants as C
use Rattle.subcommand.specs.declared.Subcommand.{Subcommand}
use Rattle.subcommand.specs.declared.Subcommand.TheVariants as S

-- a column, by its index or by its name
pub data ColumnArgument : Type 0 where
  at_index : ℕ → ColumnArgument
  named : List ℕ → ColumnArgument

-- what is asked for, with the name of the table's file; of a page the column, the row and the edition too
pub data Asked : Type 0 where
  turn : List ℕ → Asked
  turn_back : List ℕ → Asked
  page : List ℕ → ColumnArgument → ℕ → ℕ → Asked
  wrong : Asked

-- an argument is too long above 4,095 bytes
abbrev pub long_argument : List ℕ → Bool
long_argument a = ltb 4095 (length a)

-- an argument that has to say something, and does
abbrev pub given : {A : Type 0} → Option A → (A → Asked) → Asked
given None ask = wrong
given (Some x) ask = ask x

-- a single argument
abbrev pub single : List (List ℕ) → Option (List ℕ)
single [] = None
single (table ∷ []) = Some table
single (table ∷ more ∷ rest) = None

-- digits only, and one at least
abbrev pub all_digits : List ℕ → Bool
all_digits s = ltb 0 (length s) && eqb (front digit s) (length s)

-- the column that an argument says: digits only are an index, below 2^64; all else is a name, an empty one too
unfoldable pub column_by : List ℕ → Option ColumnArgument
column_by s = cond (all_digits s) (option_map at_index (number s)) (Some (named s))

-- the arguments of a page: the table, the column, the row and the edition
unfoldable pub page_by : List (List ℕ) → Asked
page_by [] = wrong
page_by (t ∷ []) = wrong
page_by (t ∷ c ∷ []) = wrong
page_by (t ∷ c ∷ r ∷ []) = wrong
page_by (t ∷ c ∷ r ∷ e ∷ []) =
    given (column_by c) (λ column. given (number r) (λ row. given (number e) (λ edition. page t column row edition)))
page_by (t ∷ c ∷ r ∷ e ∷ more ∷ rest) = wrong

-- by the subcommand's name, in which case counts
unfoldable pub by_name : List ℕ → List (List ℕ) → Asked
by_name name args =
    cond (same name (bytes "turn")) (given (single args) turn)
    (cond (same name (bytes "turn-back")) (given (single args) turn_back)
    (cond (same name (bytes "page")) (page_by args) wrong))

-- the first argument is that name
abbrev pub by_first : List (List ℕ) → Asked
by_first [] = wrong
by_first (name ∷ args) = by_name name args

-- what all arguments ask for
unfoldable pub asked : List (List ℕ) → Asked
asked args = cond (list_any long_argument args) wrong (by_first args)

-- what the code's values say
abbrev pub sought_by : SoughtColumn → ColumnArgument
sought_by (C.Index c) = at_index c
sought_by (C.Name s) = named s.now

abbrev pub asked_by : Option Subcommand → Asked
asked_by (Some (S.Turn table)) = turn table.now
asked_by (Some (S.TurnBack table)) = turn_back table.now
asked_by (Some (S.Page table column row edition)) = page table.now (sought_by column) row edition
asked_by None = wrong

-- the name of the file that a subcommand names
abbrev pub table_of : Subcommand → List ℕ
table_of (S.Turn table) = table.now
table_of (S.TurnBack table) = table.now
table_of (S.Page table column row edition) = table.now
