-- The plain list of a row and its entries: the chosen fields ascending, each field's items by index (FORMAT.md, section 12).
-- Assumes nothing.
use Rattle.std.specs.Prelude.{ℕ, zero, suc, ◌+◌, ◌*◌, ◌/◌, ◌%◌, ◌^◌, Bool, cond, List, [], ◌∷◌, ◌++◌, get_or, eqb, ltb}
use Rattle.tform.specs.declared.VariableArrayTy.{VariableArrayTy}
use Rattle.layout.specs.declared.Column.{Column}
use Rattle.layout.specs.declared.BinTable.{BinTable}
use Rattle.layout.specs.Layout.{no_column, data_size}
use Rattle.cell.specs.declared.DataValue.{DataValue}
use Rattle.cell.specs.declared.Cell.{Cell}
use Rattle.cell.specs.declared.Field.{Field}
use Rattle.cell.specs.declared.Field.TheVariants as F
use Rattle.cell.specs.Item.{width, item}
use Rattle.cell.specs.Field.{field, size_of}
use Rattle.walk.specs.declared.Entry.{Entry}
use Rattle.walk.specs.declared.Entry.TheVariants as E

-- column c of a layout
abbrev pub column_of : BinTable → ℕ → Column
column_of l c = get_or l.columns c no_column

-- where the field of column c lies in row r
abbrev pub field_at : BinTable → ℕ → ℕ → ℕ
field_at l r c = r * l.naxis1 + (column_of l c).start

-- what the field of column c in row r stands for, with the heap on or off
unfoldable pub field_of : BinTable → List ℕ → Bool → ℕ → ℕ → Field
field_of l a heap r c = field a (field_at l r c) (column_of l c) heap l.theap (data_size l)

-- the cell of row r, column c and index i
abbrev pub cell_of : ℕ → ℕ → ℕ → DataValue → Cell
cell_of r c i v = record { row = r; column = c; idx = i; value = v }

-- item i of those that lie from byte `at` on
abbrev pub item_at : Column → List ℕ → VariableArrayTy → ℕ → ℕ → DataValue
item_at column a ty at i = item column ty a (at + i * width ty)

-- n cells of row r and column c, with the indexes from i on and the values v
unfoldable pub cells : ℕ → ℕ → (ℕ → DataValue) → ℕ → ℕ → List Entry
cells r c v i zero = []
cells r c v i (suc n) = E.Cell (cell_of r c i (v i)) ∷ cells r c v (suc i) n

-- the request's term "entry": a part of the plain list, counted as one. A field of row r and column c has a cell for each item, one
-- cell for a descriptor that is not followed, and one entry, refusal 13, for an array that ends past the heap
unfoldable pub entries_of : Column → List ℕ → ℕ → ℕ → Field → List Entry
entries_of column a r c (F.Items ty at n) = cells r c (item_at column a ty at) 0 n
entries_of column a r c (F.Descriptor v) = E.Cell (cell_of r c 0 v) ∷ []
entries_of column a r c F.OutsideHeap = E.OutsideHeap c ∷ []

-- the request's term "choice": some of the layout's columns, as a number. Column c is in it if bit c, counted from the lowest, is set
unfoldable pub chosen : ℕ → ℕ → Bool
chosen choice c = eqb (choice / 2 ^ c % 2) 1

module _ (l : BinTable) (a : List ℕ) (choice : ℕ) (heap : Bool) (r : ℕ) where
  -- the entries of column c in row r
  unfoldable pub column_entries : ℕ → List Entry
  column_entries c = cond (chosen choice c) (entries_of (column_of l c) a r c (field_of l a heap r c)) []

  -- of n columns from column c on
  unfoldable pub columns_entries : ℕ → ℕ → List Entry
  columns_entries c zero = []
  columns_entries c (suc n) = column_entries c ++ columns_entries (suc c) n

  -- the request's term "plain list", of row r: its chosen fields ascending, each field's items by index. A row that the table lacks
  -- has no entry
  unfoldable pub row_entries : List Entry
  row_entries = cond (ltb r l.naxis2) (columns_entries 0 l.tfields) []

  -- how many entries column c has in row r: not a part of the plain list, but what the search for an entry works out
  abbrev pub column_size : ℕ → ℕ
  column_size c = cond (chosen choice c) (size_of (field_of l a heap r c)) 0

-- the entry at index i of a field of row r and column c, which that search hands out
abbrev pub entry_in : Column → List ℕ → ℕ → ℕ → Field → ℕ → Entry
entry_in column a r c (F.Items ty at n) i = E.Cell (cell_of r c i (item_at column a ty at i))
entry_in column a r c (F.Descriptor v) i = E.Cell (cell_of r c 0 v)
entry_in column a r c F.OutsideHeap i = E.OutsideHeap c
