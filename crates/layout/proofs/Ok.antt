-- The columns of a layout, checked one after the other.
-- Assumes nothing.
use mathlib.Core.Path.{◌≡◌}
use mathlib.Core.Bool.{true, false, and-false}
use mathlib.Core.List.{List}
use Prim.Native.Nat.{ℕ, ◌+◌, ◌≤◌, ◌<◌}
use native.Mathlib.Numerals.{add-one}
use native.Mathlib.Omega.{arith}
use lib.Dec.{eqb}
use lib.ListN.{length, get_or, drop, drop_of_length-le}
use lib.Seq.{drop-cons}
use borrow.Author.Tests.{eq-eqb, ne_eqb}
use Rattle.tform.specs.Width.{count_ok}
use Rattle.tform.proofs.Widths.{field_bytes_bound}
use Rattle.tform.proofs.Count.{count_bound}
use Rattle.layout.specs.declared.Column.{Column}
use Rattle.layout.specs.Layout.{no_column, column_bytes, columns_ok}

-- the bytes of a column with a count within the limit
pub column_limit : (c : Column) → count_ok c.form c.count ≡ true → column_bytes c ≤ 134217728
column_limit c h = omega (arith, field_bytes_bound c.form c.count, count_bound c.form c.count h)

-- c is column i of cs
module _ (end at : ℕ) (cs : List Column) (i : ℕ) (c : Column) (p : i < length cs) (e : get_or cs i no_column ≡ c) where
  pub ok_next : count_ok c.form c.count ≡ true → c.start ≡ at → columns_ok end at (drop i cs) ≡ columns_ok end (at + column_bytes c) (drop (i + 1) cs)
  unfolding columns_ok
  ok_next l q = rw (add-one i, drop-cons cs i no_column p, e, l, eq-eqb c.start at q)

  pub ok_count : count_ok c.form c.count ≡ false → columns_ok end at (drop i cs) ≡ false
  unfolding columns_ok
  ok_count l = rw (drop-cons cs i no_column p, e, l)

  pub ok_start : (c.start ≡ at → ⊥) → columns_ok end at (drop i cs) ≡ false
  unfolding columns_ok
  ok_start n = rw (drop-cons cs i no_column p, e, ne_eqb c.start at n) (and-false (count_ok c.form c.count))

pub ok_end : (end at : ℕ) (cs : List Column) (i : ℕ) → length cs ≤ i → columns_ok end at (drop i cs) ≡ eqb at end
unfolding columns_ok
ok_end end at cs i p = rw (drop_of_length-le cs {i = i} p)
