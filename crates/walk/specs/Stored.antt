-- The plain list of a row as the bytes alone say it, whatever the columns' nulls: proofs/WithoutNulls shows that a table without
-- TNULLn has this one.
-- Assumes nothing.
use Rattle.std.specs.Prelude.{ℕ, zero, suc, ◌+◌, ◌*◌, Bool, cond, List, [], ◌∷◌, ◌++◌, ltb}
use Rattle.tform.specs.declared.VariableArrayTy.{VariableArrayTy}
use Rattle.layout.specs.declared.BinTable.{BinTable}
use Rattle.cell.specs.declared.DataValue.{DataValue}
use Rattle.cell.specs.declared.Field.{Field}
use Rattle.cell.specs.declared.Field.TheVariants as F
use Rattle.cell.specs.Item.{width, raw_item}
use Rattle.walk.specs.declared.Entry.{Entry}
use Rattle.walk.specs.declared.Entry.TheVariants as E
use Rattle.walk.specs.Plain.{field_of, cell_of, cells, chosen}

-- item i of those that lie from byte `at` on
abbrev pub stored_item : List ℕ → VariableArrayTy → ℕ → ℕ → DataValue
stored_item a ty at i = raw_item ty a (at + i * width ty)

-- the entries of a field of row r and column c
unfoldable pub stored_entries : List ℕ → ℕ → ℕ → Field → List Entry
stored_entries a r c (F.Items ty at n) = cells r c (stored_item a ty at) 0 n
stored_entries a r c (F.Descriptor v) = E.Cell (cell_of r c 0 v) ∷ []
stored_entries a r c F.OutsideHeap = E.OutsideHeap c ∷ []

module _ (l : BinTable) (a : List ℕ) (choice : ℕ) (heap : Bool) (r : ℕ) where
  -- of n columns from column c on
  unfoldable pub stored_columns : ℕ → ℕ → List Entry
  stored_columns c zero = []
  stored_columns c (suc n) = cond (chosen choice c) (stored_entries a r c (field_of l a heap r c)) [] ++ stored_columns (suc c) n

  -- of row r
  unfoldable pub stored_row : List Entry
  stored_row = cond (ltb r l.naxis2) (stored_columns 0 l.tfields) []
