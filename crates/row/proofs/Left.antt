-- What is left of a row, column by column: the cells counted so far and what the columns from one on give are what is left of the row.
-- Assumes nothing.
use Rattle.std.specs.Prelude.{Option, Result, Ok, Err}
use Prim.Native.Nat.{ℕ, suc, ◌+◌, ◌-◌, ◌≤◌, ◌<◌}
use mathlib.Core.Path.{◌≡◌, refl, sym, ap, ◌∙◌}
use mathlib.Core.Bool.{true, false}
use mathlib.Core.List.{List}
use native.Mathlib.Nat.{add-zero, zero-add}
use native.Mathlib.Omega.{arith}
use lib.ListN.{length, drop}
use lib.Seq.{drop-nil}
use Rattle.layout.specs.declared.BinTable.{BinTable}
use Rattle.cell.specs.declared.Cell.{Cell}
use Rattle.walk.specs.declared.TableData.{TableData}
use Rattle.walk.specs.declared.Stepped.{Stepped}
use Rattle.walk.specs.declared.Entry.{Entry}
use Rattle.walk.specs.Plain.{columns_entries, row_entries}
use Rattle.walk.specs.Walk.{Gathered, all_cells, outside, gather}
use Rattle.walk.proofs.Laws.{from, from_row, from_end, length_from}
use Rattle.table.specs.Scan.{next_chosen}
use Rattle.table.proofs.ToNext.{next_from_lem}
use Rattle.refusal.specs.declared.Refusal.{Refusal}
use Rattle.refusal.specs.declared.Refusal.TheVariants as R
use Rattle.walk.specs.declared.Reading.TheVariants.{Plain}
use Rattle.row.specs.Plan.{is_outside, planned_cell, left_of}
use Rattle.row.proofs.Fields.{cells_from, cells_before, before_all, field_on, gather_by, plan_n, column_gathered}

-- what is left, with n cells before
abbrev pub after : ℕ → Gathered → Result ℕ Refusal
after n (all_cells cs) = Ok (n + length cs)
after n (outside k) = Err (R.ArrayOutsideHeap k)

after_none : (g : Gathered) → after 0 g ≡ left_of g
after_none (all_cells cs) = rw (zero-add (length cs))
after_none (outside k) = refl

after_all : (f : ℕ → Cell) (n total : ℕ) (g : Gathered) → after total (before_all (cells_from f 0 n) g) ≡ after (total + n) g
after_all f n total (all_cells cs) = ap Ok (omega (arith, cells_before f n cs))
after_all f n total (outside k) = refl

-- what the columns of the cursor's row give from column k on without the first `skip` entries, and what is left of the row
module _ (l : BinTable) (a : List ℕ) (c : TableData) where
  abbrev pub later : ℕ → ℕ → Gathered
  later k skip = gather (drop skip (from l a c.choice c.heap c.row k))

  abbrev pub row : List Entry
  row = row_entries l a c.choice c.heap c.row

  -- the loop's invariant, but that column k is chosen
  abbrev pub Left : ℕ → ℕ → ℕ → Type 0
  Left total skip k = (total + length (from l a c.choice c.heap c.row k) ≤ length row) × (left_of (gather (drop c.passed row)) ≡ after total (later k skip))

  -- the columns up to the next that is chosen have no entry
  pub left_next : (total skip k j : ℕ) → j ≡ next_chosen c.choice k → Left total skip k → Left total skip j
  left_next total skip k j e i = rw (← next_from_lem c.choice k j e l a c.heap c.row) i

  pub left_start : c.row < l.naxis2 → Left 0 c.passed 0
  left_start h = rw (from_row l a c.choice c.heap c.row h) (omega arith, sym (after_none (later 0 c.passed)))

  pub left_end : (total skip k : ℕ) → l.tfields ≤ k → Left total skip k → left_of (gather (drop c.passed row)) ≡ Ok total
  unfolding gather
  left_end total skip k h i = i.1 ∙ rw (from_end l a c.choice c.heap c.row k h, drop-nil {A = Entry} skip, add-zero total)

module _ (l : BinTable) (a : List ℕ) (c : TableData) (s : Stepped (Option ℕ)) where
  later_on : (k skip : ℕ) → k < l.tfields
      → later l a c k skip ≡ gather_by a k (field_on l a c s k skip) (from l a c.choice c.heap c.row (suc k))
  unfolding columns_entries
  later_on k skip h =
      let e : l.tfields - k ≡ suc (l.tfields - suc k) = omega (arith, h) in
      rw e (column_gathered l a c s k skip (from l a c.choice c.heap c.row (suc k)))

  -- an array outside the heap ends it
  pub left_outside : (total skip k : ℕ) → k < l.tfields → Left l a c total skip k → is_outside (field_on l a c s k skip) ≡ true
      → left_of (gather (drop c.passed (row l a c))) ≡ Err (R.ArrayOutsideHeap k)
  left_outside total skip k h i t = i.1 ∙ rw (later_on k skip h, t)

  -- the cells of a column, and those so far, are no more than the row's entries
  left_size : (total skip k : ℕ) → k < l.tfields → Left l a c total skip k
      → total + (field_on l a c s k skip).n + length (from l a c.choice c.heap c.row (suc k)) ≤ length (row l a c)
  left_size total skip k h i = omega (arith, i.0, plan_n l a c s k skip, length_from l a c.choice c.heap c.row k h)

  pub left_bound : (total skip k : ℕ) → k < l.tfields → Left l a c total skip k
      → total + (field_on l a c s k skip).n ≤ length (row l a c)
  left_bound total skip k h i = omega (arith, left_size total skip k h i)

  pub left_on : (total skip k : ℕ) → k < l.tfields → Left l a c total skip k → is_outside (field_on l a c s k skip) ≡ false
      → Left l a c (total + (field_on l a c s k skip).n) (field_on l a c s k skip).skip (suc k)
  left_on total skip k h i t =
      let f = field_on l a c s k skip in (
        left_size total skip k h i,
        i.1 ∙ rw (later_on k skip h, t) (after_all (planned_cell Plain a f) f.n total (later l a c (suc k) f.skip)),
      )
