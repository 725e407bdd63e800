-- One pass over the columns of a row: what it says after each column and after all, and that an entry that it found is the cell read's.
-- Assumes nothing.
use Rattle.std.specs.Prelude.{Option, Some, None}
use Prim.Native.Nat.{ℕ, suc, ◌+◌, ◌-◌, ◌*◌, ◌≤◌, ◌<◌, ◌^◌}
use mathlib.Core.Path.{◌≡◌, refl, ◌∙◌}
use mathlib.Core.Bool.{Bool, true, cond, or-true, ◌&&◌, ◌||◌}
use mathlib.Core.List.{List}
use native.Mathlib.Nat.{mul-le-mul_right, mul-le-mul_left}
use native.Mathlib.Numerals.{add-one}
use native.Mathlib.Omega.{arith}
use lib.ListN.{length, get_or, drop, length-take}
use lib.Dec.{eqb, leb, ltb}
use borrow.Author.Tests.{ltb-true, ltb-false, leb-true, lt-ltb, lt-leb, le-leb, eq-eqb}
use Rattle.ascii.proofs.Cases.{by_test, either}
use Rattle.tform.specs.Width.{count_ok}
use Rattle.layout.specs.declared.BinTable.{BinTable}
use Rattle.layout.specs.Layout.{naxis1_limit, naxis2_limit, pcount_limit, tfields_limit, data_limit, column_bytes, columns_of, main_size, data_size, columns_ok, layout_ok}
use Rattle.layout.proofs.Named.{column_at}
use Rattle.layout.proofs.Ok.{column_limit, ok_next, ok_end}
use Rattle.cell.specs.Field.{field, size_of}
use Rattle.cell.proofs.Inside.{field_bound}
use Rattle.walk.specs.declared.TableData.{TableData}
use Rattle.walk.specs.declared.Entry.{Entry}
use Rattle.walk.specs.declared.Entry.TheVariants.{OutsideHeap}
use Rattle.walk.specs.Plain.{column_of, field_at, field_of, chosen, column_size, entry_in, row_entries}
use Rattle.walk.specs.declared.How.{How}
use Rattle.walk.specs.Scaled.{plain}
use Rattle.walk.specs.Readings.{entry_as}
use Rattle.walk.specs.Walk.{read_cell, entry_at, entry_outcome, place_ok}
use Rattle.walk.specs.Step.{fits, choice_ok, belongs, state_of, with_cursor, cursor_step}
use Rattle.std.proofs.lemmas.Bool.{and_parts}
use Rattle.walk.proofs.Laws.{from, from_row, from_end, length_from, at_here, at_later, size_chosen, next_here}
use Rattle.walk.proofs.Steps.{read_at}
use Rattle.table.specs.declared.scan.Found.{Found}
use Rattle.table.specs.declared.scan.Scan.{Scan}
use Rattle.table.specs.Scan.{sizes_of, ready, after}

-- by what an option is
by_option : {ℓ : Type 0} (x : Option Found) → ((k : Found) → x ≡ Some k → ℓ) → (x ≡ None → ℓ) → ℓ
by_option (Some k) f g = f k refl
by_option None f g = g refl

-- row r of a layout with its 64 columns
module _ (l : BinTable) (a : List ℕ) (choice : ℕ) (heap : Bool) (r : ℕ) where
  abbrev size : ℕ → ℕ
  size c = column_size l a choice heap r c

  abbrev entries : ℕ → List Entry
  entries c = from l a choice heap r c

  -- the first c columns take `at` bytes and have n entries
  pub record Summed (c at n : ℕ) : Type 0 where
    pub bytes : at ≤ c * 134217744
    pub some : n ≤ c * 17594467745808
    pub sums : columns_ok l.naxis1 0 (columns_of l) ≡ columns_ok l.naxis1 at (drop c (columns_of l))
    pub sizes : n + length (entries c) ≡ length (entries 0)

  -- column c comes next, with k entries
  pub summed_next : length (columns_of l) ≡ l.tfields → (c at n k : ℕ) → c < l.tfields → Summed c at n → k ≤ 17594467745808
      → count_ok (column_of l c).form (column_of l c).count ≡ true → (column_of l c).start ≡ at → k ≡ size c
      → Summed (suc c) (at + column_bytes (column_of l c)) (n + k)
  summed_next full c at n k h w few count e sized =
      record {
        bytes = omega (arith, w.bytes, column_limit (column_of l c) count);
        some = omega (arith, w.some, few);
        sums = w.sums
            ∙ rw (← add-one c)
            (ok_next l.naxis1 at (columns_of l) c (column_of l c) (omega (arith, full, h)) (column_at l c h) count e);
        sizes = omega (arith, w.sizes, length_from l a choice heap r c h, sized);
      }

  -- the entries of a column that starts at byte `at` of the row
  pub sized_at : (c at : ℕ) → (column_of l c).start ≡ at
      → cond (chosen choice c) (size_of (field a (r * l.naxis1 + at) (column_of l c) heap l.theap (data_size l))) 0 ≡ size c
  unfolding field_of
  sized_at c at e = rw (← e)

-- and p entries of it are passed
module _ (l : BinTable) (a : List ℕ) (choice : ℕ) (heap : Bool) (r p : ℕ) where
  -- the entry p of the row
  abbrev pub sought : Entry
  sought = get_or (from l a choice heap r 0) p (OutsideHeap 0)

  -- it is found, in a column below c and among the row's first n entries
  abbrev pub FoundIn : ℕ → ℕ → Found → Type 0
  FoundIn c n f =
      (p < n) × ((f.column < c) × ((f.idx < size_of (field_of l a heap r f.column))
      × (sought ≡ entry_in (column_of l f.column) a r f.column (field_of l a heap r f.column) f.idx)))

  -- it stands further on, after the row's first n entries
  abbrev pub FurtherOn : ℕ → ℕ → Type 0
  FurtherOn c n = (n ≤ p) × (sought ≡ get_or (from l a choice heap r c) (p - n) (OutsideHeap 0))

  -- what the pass says after the first c columns
  pub record Scanned (c : ℕ) (s : Scan) : Type 0 where
    pub summed : Summed l a choice heap r c s.at s.size
    pub found : (f : Found) → s.found ≡ Some f → FoundIn c s.size f
    pub missing : s.found ≡ None → FurtherOn c s.size

  -- column c comes next, with k entries
  module _ (full : length (columns_of l) ≡ l.tfields) (c k : ℕ) (s : Scan) (h : c < l.tfields) (w : Scanned c s)
      (few : k ≤ 17594467745808) (count : count_ok (column_of l c).form (column_of l c).count ≡ true) (at : (column_of l c).start ≡ s.at)
      (sized : k ≡ column_size l a choice heap r c) where
    abbrev t : Scan
    t = after s (column_of l c) c k p

    sum : Summed l a choice heap r (suc c) (s.at + column_bytes (column_of l c)) (s.size + k)
    sum = summed_next l a choice heap r full c s.at s.size k h w.summed few count at sized

    here : s.found ≡ None → p < s.size + k → FoundIn (suc c) (s.size + k) (record { column = c; idx = p - s.size })
    here e q =
        let m = w.missing e in
        let n : p - s.size < k = omega (arith, q, m.0) in
        let i : p - s.size < column_size l a choice heap r c = rw (← sized) n in
        (q, (omega arith, (size_chosen l a choice heap r c (p - s.size) i, m.1 ∙ at_here l a choice heap r c (p - s.size) (OutsideHeap 0) h i)))

    later : s.found ≡ None → s.size + k ≤ p → FurtherOn (suc c) (s.size + k)
    later e q =
        let m = w.missing e in
        let n : k ≤ p - s.size = omega (arith, q) in
        let i : column_size l a choice heap r c ≤ p - s.size = rw (← sized) n in
        let d : p - (s.size + k) ≡ p - s.size - column_size l a choice heap r c = omega (arith, sized) in
        (q, m.1 ∙ rw d (at_later l a choice heap r c (p - s.size) (OutsideHeap 0) h i))

    pub scanned_next : Scanned (suc c) t
    scanned_next =
        by_option s.found
        (λ j e.
        rw (lt-leb s.size p (w.found j e).0)
        record {
          summed = sum;
          found = λ i q. let f = w.found i q in (omega (arith, f.0), (omega (arith, f.1.0), f.1.1));
          missing = λ q. cc;
        })
        (λ e.
        let o = le-leb s.size p (w.missing e).0 in
        either (ltb p (s.size + k))
        (λ b.
        rw (o, b)
        record {
          summed = sum;
          found = λ i q. let n : record { column = c; idx = p - s.size } ≡ i = cc in rw (← n) (here e (ltb-true _ _ b));
          missing = λ q. cc;
        })
        (λ b.
        rw (o, b)
        record {
          summed = sum;
          found = λ i q. cc;
          missing = λ q. later e (ltb-false _ _ b);
        }))

-- ---- what a pass needs

-- the tests of `ready`, one by one
pub record Ready (l : BinTable) (a : List ℕ) (choice row : ℕ) : Type 0 where
  pub row_bytes : leb l.naxis1 naxis1_limit ≡ true
  pub rows : leb l.naxis2 naxis2_limit ≡ true
  pub heap_bytes : leb l.pcount pcount_limit ≡ true
  pub columns : leb l.tfields tfields_limit ≡ true
  pub heap_from : leb (main_size l) l.theap ≡ true
  pub heap_to : leb l.theap (data_size l) ≡ true
  pub area : leb (data_size l) (length a) ≡ true
  pub in_table : ltb row l.naxis2 ≡ true
  pub choice_in_range : (ltb 0 choice && ltb choice (2 ^ l.tfields)) ≡ true

pub ready_says : (l : BinTable) (a : List ℕ) (u : TableData) → ready (sizes_of l) (length a) u ≡ true → Ready l a u.choice u.row
unfolding ready
ready_says l a u e =
    let rows = (and_parts _ _ e).1 in
    let heap = (and_parts _ _ rows).1 in
    let columns = (and_parts _ _ heap).1 in
    let from = (and_parts _ _ columns).1 in
    let to = (and_parts _ _ from).1 in
    let area = (and_parts _ _ to).1 in
    let row = (and_parts _ _ area).1 in
    record {
      row_bytes = (and_parts _ _ e).0;
      rows = (and_parts _ _ rows).0;
      heap_bytes = (and_parts _ _ heap).0;
      columns = (and_parts _ _ columns).0;
      heap_from = (and_parts _ _ from).0;
      heap_to = (and_parts _ _ to).0;
      area = (and_parts _ _ area).0;
      in_table = (and_parts _ _ row).0;
      choice_in_range = (and_parts _ _ row).1;
    }

-- the columns in use are as many as the layout says, of its 64 slots
pub ready_full : (l : BinTable) → length l.columns ≡ 64 → l.tfields ≤ 64 → length (columns_of l) ≡ l.tfields
ready_full l e h = length-take l.tfields l.columns ∙ omega arith

module _ (l : BinTable) (a : List ℕ) (choice row : ℕ) (y : Ready l a choice row) where
  pub ready_columns : l.tfields ≤ 64
  ready_columns = leb-true _ _ y.columns

  pub ready_row : row < l.naxis2
  ready_row = ltb-true _ _ y.in_table

  pub ready_data : data_size l ≤ data_limit
  ready_data =
      omega (
        arith,
        leb-true l.pcount pcount_limit y.heap_bytes,
        mul-le-mul_right l.naxis2 (leb-true l.naxis1 naxis1_limit y.row_bytes),
        mul-le-mul_left 1048576 (leb-true l.naxis2 naxis2_limit y.rows),
      )

  pub ready_start : row * l.naxis1 + l.naxis1 ≤ main_size l
  ready_start = omega (arith, mul-le-mul_right l.naxis1 ready_row)

  -- the entries of a column
  pub ready_few : (heap : Bool) (c : ℕ) → count_ok (column_of l c).form (column_of l c).count ≡ true → column_size l a choice heap row c ≤ 17594467745808
  unfolding field_of
  ready_few heap c e =
      by_test (λ (k : ℕ). k ≤ 17594467745808) (chosen choice c)
      (λ q. omega (arith, field_bound a (field_at l row c) (column_of l c) heap l.theap (data_size l), column_limit (column_of l c) e, ready_data)) (λ q. omega arith)

  pub ready_fits : columns_ok l.naxis1 0 (columns_of l) ≡ true → fits l a ≡ true
  unfolding fits layout_ok
  ready_fits e = rw (y.row_bytes, y.rows, y.heap_bytes, y.columns, y.heap_from, y.heap_to, e, y.area)

-- ---- the pass over all columns of a cursor's row

module _ (l : BinTable) (a : List ℕ) (cursor : TableData) (at n : ℕ) (full : length (columns_of l) ≡ l.tfields)
    (y : Ready l a cursor.choice cursor.row)
    (w : Summed l a cursor.choice cursor.heap cursor.row l.tfields at n) (ends : at ≡ l.naxis1) where
  pub summed_fits : fits l a ≡ true
  summed_fits =
      ready_fits l a cursor.choice cursor.row y
      (w.sums ∙ ok_end l.naxis1 at (columns_of l) l.tfields (omega (arith, full)) ∙ eq-eqb at l.naxis1 ends)

  pub summed_row : row_entries l a cursor.choice cursor.heap cursor.row ≡ from l a cursor.choice cursor.heap cursor.row 0
  summed_row = from_row l a cursor.choice cursor.heap cursor.row (ready_row l a cursor.choice cursor.row y)

  pub summed_size : length (row_entries l a cursor.choice cursor.heap cursor.row) ≡ n
  summed_size =
      let e : length (from l a cursor.choice cursor.heap cursor.row l.tfields) ≡ 0 = rw (from_end l a cursor.choice cursor.heap cursor.row l.tfields (omega arith)) in
      rw summed_row (omega (arith, w.sizes, e))

  -- the cursor belongs if its place is the row's start or an entry
  pub summed_belongs : (eqb cursor.passed 0 || ltb cursor.passed (length (row_entries l a cursor.choice cursor.heap cursor.row))) ≡ true
      → belongs l a cursor ≡ true
  unfolding belongs choice_ok place_ok
  summed_belongs e = rw (summed_fits, y.choice_in_range, y.in_table) e

-- ---- the entry that was found

module _ (l : BinTable) (a : List ℕ) (cursor : TableData) (s : Scan) (k : Found) (full : length (columns_of l) ≡ l.tfields)
    (y : Ready l a cursor.choice cursor.row)
    (w : Scanned l a cursor.choice cursor.heap cursor.row cursor.passed l.tfields s) (ends : s.at ≡ l.naxis1)
    (f : s.found ≡ Some k) where
  abbrev rows_of : ℕ → List Entry
  rows_of = row_entries l a cursor.choice cursor.heap

  pub found_in : FoundIn l a cursor.choice cursor.heap cursor.row cursor.passed l.tfields s.size k
  found_in = w.found k f

  pub found_fits : fits l a ≡ true
  found_fits = summed_fits l a cursor s.at s.size full y w.summed ends

  row_is : rows_of cursor.row ≡ from l a cursor.choice cursor.heap cursor.row 0
  row_is = summed_row l a cursor s.at s.size full y w.summed ends

  whole : length (rows_of cursor.row) ≡ s.size
  whole = summed_size l a cursor s.at s.size full y w.summed ends

  inside : cursor.passed < length (rows_of cursor.row)
  inside = omega (arith, whole, found_in.0)

  found_belongs : belongs l a cursor ≡ true
  found_belongs =
      summed_belongs l a cursor s.at s.size full y w.summed ends
      (rw (lt-ltb cursor.passed (length (rows_of cursor.row)) inside) (or-true (eqb cursor.passed 0)))

  pub found_step : (how : How) → cursor_step l a cursor (read_cell how)
      ≡ with_cursor cursor.choice cursor.heap (entry_outcome (state_of cursor) plain s.size cursor.row cursor.passed
      (entry_as l how.reading (entry_in (column_of l k.column) a cursor.row k.column (field_of l a cursor.heap cursor.row k.column) k.idx)))
  found_step how =
      let e : get_or (rows_of cursor.row) cursor.passed (OutsideHeap 0) ≡ entry_in (column_of l k.column) a cursor.row k.column (field_of l a cursor.heap cursor.row k.column) k.idx = rw row_is found_in.1.1.1 in
      rw (← e, ← whole)
      (read_at l a cursor found_belongs how (entry_at cursor.row cursor.passed (get_or (rows_of cursor.row) cursor.passed (OutsideHeap 0)))
      (next_here rows_of l.naxis2 cursor.row cursor.passed (ready_row l a cursor.choice cursor.row y) inside))
