-- One pass over the columns of a cursor's row, as the code of the cell read and the row read has it. The steps' contracts are not stated by these;
-- proofs/Scanned shows that an entry that a pass finds is the plain list's.
-- Assumes nothing.
use Rattle.std.specs.Prelude.{ℕ, zero, suc, ◌+◌, ◌-◌, ◌*◌, ◌^◌, Bool, true, false, cond, ◌&&◌, ◌||◌, eqb, leb, ltb, Some}
use Rattle.tform.specs.declared.TFormType.{TFormType}
use Rattle.tform.specs.declared.TFormType.TheVariants.{Items, P, Q}
use Rattle.tform.specs.Width.{field_items}
use Rattle.layout.specs.declared.Column.{Column}
use Rattle.layout.specs.declared.BinTable.{BinTable}
use Rattle.layout.specs.Layout.{naxis1_limit, naxis2_limit, pcount_limit, tfields_limit, data_size, column_bytes}
use Rattle.walk.specs.declared.TableData.{TableData}
use Rattle.walk.specs.Plain.{column_of, chosen}
use Rattle.cell.specs.declared.Heap.{Heap}
use Rattle.table.specs.declared.pass.Sizes.{Sizes}
use Rattle.table.specs.declared.scan.Scan.{Scan}
use Rattle.table.specs.declared.rows.RowSpan.{RowSpan}

-- the heap of a layout, on or off
abbrev pub heap_of : BinTable → Bool → Heap
heap_of l followed = record { followed = followed; start = l.theap; end = data_size l }

-- where the cursor's row starts, and the heap that its descriptors name
abbrev pub span_of : BinTable → TableData → RowSpan
span_of l u = record { start = u.row * l.naxis1; heap = heap_of l u.heap }

-- the first chosen column of the k from c on, or the one after them
unfoldable pub next_from : ℕ → ℕ → ℕ → ℕ
next_from choice c zero = c
next_from choice c (suc k) = cond (chosen choice c) c (next_from choice (suc c) k)

-- the first chosen column from c on. No column from 64 on is chosen
abbrev pub next_chosen : ℕ → ℕ → ℕ
next_chosen choice c = next_from choice c (tfields_limit - c)

-- the items of column c, a descriptor being one
abbrev pub items_in : BinTable → ℕ → ℕ
items_in l c = field_items (column_of l c).form (column_of l c).count

-- a chosen column of the k from c on holds one
unfoldable pub any_items : BinTable → ℕ → ℕ → ℕ → Bool
any_items l choice c zero = false
any_items l choice c (suc k) = (chosen choice c && ltb 0 (items_in l c)) || any_items l choice (suc c) k

-- the sizes of a layout
abbrev pub sizes_of : BinTable → Sizes
sizes_of l = record { naxis1 = l.naxis1; naxis2 = l.naxis2; pcount = l.pcount; theap = l.theap; tfields = l.tfields }

-- what a pass needs: the limits and sums of a layout but for its columns, an area of this length, a row and a choice
unfoldable pub ready : Sizes → ℕ → TableData → Bool
ready s len u =
    let main = s.naxis1 * s.naxis2 in
    let end = main + s.pcount in
    leb s.naxis1 naxis1_limit && (leb s.naxis2 naxis2_limit && (leb s.pcount pcount_limit && (leb s.tfields tfields_limit
    && (leb main s.theap && (leb s.theap end && (leb end len
    && (ltb u.row s.naxis2 && (ltb 0 u.choice && ltb u.choice (2 ^ s.tfields)))))))))

-- a form and a count without a descriptor: items, or P or Q of count 0
abbrev pub no_descriptor : TFormType → ℕ → Bool
no_descriptor (Items ty) n = true
no_descriptor (P ty) n = eqb n 0
no_descriptor (Q ty) n = eqb n 0

-- a column that holds no descriptor, if it is chosen
abbrev pub plain_column : Column → Bool → Bool
plain_column column is = cond is (no_descriptor column.form column.count) true

-- the pass after column c, which has k entries, where p of the row stand before the next entry
abbrev pub after : Scan → Column → ℕ → ℕ → ℕ → Scan
after s column c k p =
    record {
      at = s.at + column_bytes column;
      size = s.size + k;
      found = cond (leb s.size p && ltb p (s.size + k)) (Some (record { column = c; idx = p - s.size })) s.found;
    }
