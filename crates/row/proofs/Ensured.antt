-- The premises of row/specs/Ran are the contracts of the calls: for each call, what its `ensures` says, as the check has it, is that premise, by computation. So a
-- run of the code is a `Ran`. The owners have the contracts of the calls by value.
-- Assumes nothing.
use Rattle.std.specs.Prelude.{Option, Result}
use Prim.Native.Nat.{ℕ}
use mathlib.Core.Path.{◌≡◌, refl}
use mathlib.Core.Bool.{Bool}
use mathlib.Core.List.{List}
use lib.ListN.{get_or}
use seplogic.Ra.Ura.{Ura}
use base.Logic.{SProp, sep}
use base.Fml.{Lft}
use prog.Memory.{Memory}
use prog.Routine.{Routine}
use types.Logic.{Logic}
use contract.Monad.{Fun, fact}
use denote.Ref.{Bor}
use denote.MutBor.{MutBor}
use Rattle.refusal.specs.declared.Refusal.{Refusal}
use Rattle.layout.specs.declared.BinTable.{BinTable}
use Rattle.bintable.specs.contracts.parse as bintable_parse
use Rattle.cell.specs.declared.Cell.{Cell}
use Rattle.walk.specs.declared.TableData.{TableData}
use Rattle.walk.specs.declared.Stepped.{Stepped}
use Rattle.walk.specs.declared.How.{How}
use Rattle.walk.specs.Step.{all_columns, listed}
use Rattle.table.specs.contracts.open as table_open
use Rattle.table.specs.contracts.select_fields as table_select_fields
use Rattle.table.specs.contracts.next as table_next
use Rattle.table.specs.contracts.next_of as table_next_of
use Rattle.table.specs.contracts.seek_to_row as table_seek_to_row
use Rattle.table.specs.contracts.seek_to_row_of as table_seek_to_row_of
use Rattle.row.specs.declared.owners.RowCell.{RowCell}
use Rattle.row.specs.Owned.{own_list, own_read}
use Rattle.row.specs.Ran.{EntryEnsures, OpenEnsures, NextEnsures, RowEnsures, SeekEnsures, LentNextEnsures, LentRowEnsures, LentSeekEnsures}
use Rattle.row.specs.contracts.read_row as read_row_by_value
use Rattle.row.specs.contracts.next as lent_next
use Rattle.row.specs.contracts.next_row as lent_next_row
use Rattle.row.specs.contracts.seek_to_row as lent_seek_to_row
use Rattle.row.specs.contracts.owners.next as own_next
use Rattle.row.specs.contracts.owners.seek_to_row as own_seek_to_row
use Rattle.row.specs.contracts.owners.row_cell as own_row_cell
use Rattle.row.specs.contracts.owners.next_row_cell as own_next_row_cell

module _ {M : Type 1} {𝓤 : Ura M} (𝓛 : Logic 𝓤) (mem : Memory → SProp 𝓤) (run : Routine → Fun 𝓤) (κ κ' κ'' : Lft) (l : BinTable) (area : Bor (List ℕ)) where
  -- ---- the entry and opening

  pub parse_ensures : (header : Bor (List ℕ)) (r : Result BinTable Refusal)
      → (bintable_parse.clauses 𝓛 mem run (κ, (κ', tt)) (header, (area, tt))).ensures tt r (header, (area, tt))
      ≡ fact 𝓤 (EntryEnsures header.now area.now r)
  parse_ensures header r = refl

  pub open_ensures : (heap : Bool) (r : Result TableData Refusal)
      → (table_open.clauses 𝓛 mem run (κ, tt) (l, (area, (heap, tt)))).ensures tt r (l, (area, (heap, tt)))
      ≡ fact 𝓤 (OpenEnsures l area.now all_columns heap r)
  open_ensures heap r = refl

  pub select_ensures : (cols : Bor (List ℕ)) (heap : Bool) (r : Result TableData Refusal)
      → (table_select_fields.clauses 𝓛 mem run (κ, (κ', tt)) (l, (area, (cols, (heap, tt))))).ensures tt r (l, (area, (cols, (heap, tt))))
      ≡ fact 𝓤 (OpenEnsures l area.now (listed cols.now) heap r)
  select_ensures cols heap r = refl

  -- ---- the steps by value

  module _ (cursor : TableData) where
    pub next_ensures : (how : How) (r : Stepped (Option Cell))
        → (table_next.clauses 𝓛 mem run (κ, tt) (l, (area, (cursor, (how, tt))))).ensures tt r (l, (area, (cursor, (how, tt))))
        ≡ fact 𝓤 (NextEnsures l area.now cursor how r)
    next_ensures how r = refl

    -- over a lent layout, as `cells` and `replay` read
    pub next_of_ensures : (lent : Bor BinTable) (how : How) (r : Stepped (Option Cell))
        → (table_next_of.clauses 𝓛 mem run (κ, (κ', tt)) (lent, (area, (cursor, (how, tt))))).ensures tt r (lent, (area, (cursor, (how, tt))))
        ≡ fact 𝓤 (NextEnsures lent.now area.now cursor how r)
    next_of_ensures lent how r = refl

    pub row_ensures : (how : How) (list after : MutBor (List Cell)) (r : Stepped (Option ℕ))
        → (read_row_by_value.clauses 𝓛 mem run (κ, (κ', tt)) (l, (area, (cursor, (how, (list, tt)))))).ensures tt r (l, (area, (cursor, (how, (after, tt)))))
        ≡ fact 𝓤 (RowEnsures l area.now cursor how list.now after.now r)
    row_ensures how list after r = refl

    pub seek_ensures : (row : ℕ) (r : Stepped Unit)
        → (table_seek_to_row.clauses 𝓛 mem run (κ, tt) (l, (area, (cursor, (row, tt))))).ensures tt r (l, (area, (cursor, (row, tt))))
        ≡ fact 𝓤 (SeekEnsures l area.now cursor row r)
    seek_ensures row r = refl

    -- over a lent layout, as `replay` seeks
    pub seek_of_ensures : (lent : Bor BinTable) (row : ℕ) (r : Stepped Unit)
        → (table_seek_to_row_of.clauses 𝓛 mem run (κ, (κ', tt)) (lent, (area, (cursor, (row, tt))))).ensures tt r (lent, (area, (cursor, (row, tt))))
        ≡ fact 𝓤 (SeekEnsures lent.now area.now cursor row r)
    seek_of_ensures lent row r = refl

    -- ---- the owners

    pub own_next_ensures : (how : How) (r : Stepped (Option Cell))
        → (own_next.clauses 𝓛 mem run (κ, tt) (l, (area, (cursor, (how, tt))))).ensures tt r (l, (area, (cursor, (how, tt))))
        ≡ fact 𝓤 (NextEnsures l area.now cursor how r)
    own_next_ensures how r = refl

    pub own_seek_ensures : (row : ℕ) (r : Stepped Unit)
        → (own_seek_to_row.clauses 𝓛 mem run (κ, tt) (l, (area, (cursor, (row, tt))))).ensures tt r (l, (area, (cursor, (row, tt))))
        ≡ fact 𝓤 (SeekEnsures l area.now cursor row r)
    own_seek_ensures row r = refl

    -- a row read into a list of the owner's, and a cell of what it holds afterwards
    module _ (how : How) (filler : Cell) (n k : ℕ) where
      abbrev lists : List Cell
      lists = (own_read l area.now cursor how filler n).list

      pub own_row_ensures : (r : RowCell)
          → (own_row_cell.clauses 𝓛 mem run (κ, tt) (l, (area, (cursor, (how, (filler, (n, (k, tt)))))))).ensures tt r (l, (area, (cursor, (how, (filler, (n, (k, tt)))))))
          ≡ sep 𝓤 (fact 𝓤 (RowEnsures l area.now cursor how (own_list filler n) lists r.stepped)) (fact 𝓤 (r.cell ≡ get_or lists k filler))
      own_row_ensures r = refl

      pub own_lent_row_ensures : (r : RowCell)
          → (own_next_row_cell.clauses 𝓛 mem run (κ, tt) (l, (area, (cursor, (how, (filler, (n, (k, tt)))))))).ensures tt r (l, (area, (cursor, (how, (filler, (n, (k, tt)))))))
          ≡ sep 𝓤 (fact 𝓤 (RowEnsures l area.now cursor how (own_list filler n) lists r.stepped)) (fact 𝓤 (r.cell ≡ get_or lists k filler))
      own_lent_row_ensures r = refl

  -- ---- the steps over a lent cursor

  module _ (cursor moved : MutBor TableData) where
    pub lent_next_ensures : (how : How) (r : Result (Option Cell) Refusal)
        → (lent_next.clauses 𝓛 mem run (κ, (κ', tt)) (cursor, (l, (area, (how, tt))))).ensures tt r (moved, (l, (area, (how, tt))))
        ≡ fact 𝓤 (LentNextEnsures l area.now cursor.now moved.now how r)
    lent_next_ensures how r = refl

    pub lent_row_ensures : (how : How) (list after : MutBor (List Cell)) (r : Result (Option ℕ) Refusal)
        → (lent_next_row.clauses 𝓛 mem run (κ, (κ', (κ'', tt))) (cursor, (l, (area, (how, (list, tt)))))).ensures tt r (moved, (l, (area, (how, (after, tt)))))
        ≡ fact 𝓤 (LentRowEnsures l area.now cursor.now moved.now how list.now after.now r)
    lent_row_ensures how list after r = refl

    pub lent_seek_ensures : (row : ℕ) (r : Result Unit Refusal)
        → (lent_seek_to_row.clauses 𝓛 mem run (κ, (κ', tt)) (cursor, (l, (area, (row, tt))))).ensures tt r (moved, (l, (area, (row, tt))))
        ≡ fact 𝓤 (LentSeekEnsures l area.now cursor.now moved.now row r)
    lent_seek_ensures row r = refl
