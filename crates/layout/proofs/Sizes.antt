-- What a layout that keeps its limits and sums says in numbers.
-- Assumes nothing.
use Prim.Native.Nat.{◌≤◌}
use mathlib.Core.Path.{◌≡◌}
use mathlib.Core.Bool.{Bool, true, ◌&&◌}
use native.Mathlib.Nat.{mul-le-mul_right, mul-le-mul_left}
use native.Mathlib.Omega.{arith}
use borrow.Author.Tests.{leb-true}
use Rattle.ascii.proofs.Cases.{both}
use Rattle.layout.specs.declared.BinTable.{BinTable}
use Rattle.layout.specs.Layout.{data_limit, columns_of, main_size, data_size, columns_ok, layout_ok}

-- the limits and sums of a layout, one by one
pub record Limits (l : BinTable) : Type 0 where
  pub row_bytes : l.naxis1 ≤ 1048576
  pub rows : l.naxis2 ≤ 16777216
  pub heap_bytes : l.pcount ≤ 2147483647
  pub columns : l.tfields ≤ 64
  pub heap_from : main_size l ≤ l.theap
  pub heap_to : l.theap ≤ data_size l
  pub sums : columns_ok l.naxis1 0 (columns_of l) ≡ true

and_l : (t u : Bool) → (t && u) ≡ true → t ≡ true
and_l t u e = (both t u e).0

and_r : (t u : Bool) → (t && u) ≡ true → u ≡ true
and_r t u e = (both t u e).1

pub limits : (l : BinTable) → layout_ok l ≡ true → Limits l
unfolding layout_ok
limits l e =
    record {
      row_bytes = leb-true _ _ (search (and_l, and_r) depth 9);
      rows = leb-true _ _ (search (and_l, and_r) depth 9);
      heap_bytes = leb-true _ _ (search (and_l, and_r) depth 9);
      columns = leb-true _ _ (search (and_l, and_r) depth 9);
      heap_from = leb-true _ _ (search (and_l, and_r) depth 9);
      heap_to = leb-true _ _ (search (and_l, and_r) depth 9);
      sums = search (and_l, and_r) depth 9;
    }

-- where the heap ends
pub data_bound : (l : BinTable) → layout_ok l ≡ true → data_size l ≤ data_limit
data_bound l ok =
    let lim = limits l ok in
    omega (arith, lim.heap_bytes, mul-le-mul_right l.naxis2 lim.row_bytes, mul-le-mul_left 1048576 lim.rows)
