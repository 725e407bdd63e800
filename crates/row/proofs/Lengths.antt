-- The steps of `filled` and of what it asks, one column at a time and from a column to the next that is chosen; and
-- that the list stays as long as it was.
-- Assumes nothing.
use mathlib.Core.Path.{◌≡◌, refl, ◌∙◌}
use Prim.Native.Nat.{ℕ, zero, suc, ◌+◌, ◌-◌, ◌≤◌, ◌<◌, ◌^◌}
use mathlib.Core.Bool.{false}
use mathlib.Core.List.{List}
use native.Mathlib.Nat.{add-zero, zero-sub, sub-zero}
use native.Mathlib.Omega.{arith}
use lib.ListN.{length, get_or, length-set}
use lib.Dec.{ltb}
use borrow.Author.Tests.{ltb-true, ltb-false}
use Rattle.ascii.proofs.Cases.{either}
use Rattle.layout.specs.declared.Column.{Column}
use Rattle.cell.specs.declared.Cell.{Cell}
use Rattle.layout.specs.Layout.{no_column}
use Rattle.walk.specs.declared.Reading.{Reading}
use Rattle.walk.specs.Plain.{chosen}
use Rattle.table.specs.Scan.{next_chosen}
use Rattle.table.proofs.ToNext.{to_next}
use Rattle.row.specs.declared.plan.RowPlan.{RowPlan}
use Rattle.row.specs.Plan.{field_plan, planned_cell, PlanOk, stored_at, plan_at, filled, RowFits}

-- the list stays as long as it was
pub stored_length : (f : ℕ → Cell) (at n : ℕ) (ys : List Cell) → length (stored_at f at n ys) ≡ length ys
stored_length f at zero ys = refl
stored_length f at (suc n) ys = length-set (stored_at f at n ys) (at + n) (f n) ∙ stored_length f at n ys

module _ (columns : List Column) (a : List ℕ) (p : RowPlan) (mode : Reading) where
  pub filled_none : (c skip at : ℕ) (ys : List Cell) → filled columns a p mode c zero skip at ys ≡ ys
  unfolding filled
  filled_none c skip at ys = refl

  pub filled_more : (c k skip at : ℕ) (ys : List Cell)
      → filled columns a p mode c (suc k) skip at ys
      ≡ filled columns a p mode (suc c) k (plan_at columns a p c skip).skip (at + (plan_at columns a p c skip).n) (stored_at (planned_cell mode a (plan_at columns a p c skip)) at (plan_at columns a p c skip).n ys)
  unfolding filled
  filled_more c k skip at ys = refl

  fits_none : (c skip at m : ℕ) → RowFits columns a p c zero skip at m
  unfolding RowFits
  fits_none c skip at m = tt

  -- what is asked of one column
  abbrev pub FieldFits : ℕ → ℕ → ℕ → ℕ → Type 0
  FieldFits c skip at m = (p.span.start + (get_or columns c no_column).start < 2 ^ 64) × (PlanOk (plan_at columns a p c skip) × (at + (plan_at columns a p c skip).n ≤ m))

  pub fits_more : (c k skip at m : ℕ) → RowFits columns a p c (suc k) skip at m
      → FieldFits c skip at m × RowFits columns a p (suc c) k (plan_at columns a p c skip).skip (at + (plan_at columns a p c skip).n) m
  unfolding RowFits
  fits_more c k skip at m h = ((h.0, (h.1.0, h.1.1.0)), h.1.1.1)

  -- ---- a column that is not chosen, and so on to the next that is. Of n columns those from c on are left

  none_planned : (c skip : ℕ) → chosen p.cursor.choice c ≡ false → ((plan_at columns a p c skip).n ≡ 0) × ((plan_at columns a p c skip).skip ≡ skip)
  unfolding field_plan
  none_planned c skip e = rw e (zero-sub skip, sub-zero skip)

  filled_skip : (n c skip at : ℕ) (ys : List Cell) → chosen p.cursor.choice c ≡ false
      → filled columns a p mode c (n - c) skip at ys ≡ filled columns a p mode (suc c) (n - suc c) skip at ys
  filled_skip n c skip at ys e =
      either (ltb c n)
      (λ t.
      let q : n - c ≡ suc (n - suc c) = omega (arith, ltb-true c n t) in
      let f = none_planned c skip e in rw (q, filled_more c (n - suc c) skip at ys, f.0, f.1, add-zero at))
      (λ t.
      let q : n - c ≡ 0 = omega (arith, ltb-false c n t) in
      let r : n - suc c ≡ 0 = omega (arith, ltb-false c n t) in rw (q, r, filled_none c skip at ys, filled_none (suc c) skip at ys))

  fits_skip : (n c skip at m : ℕ) → chosen p.cursor.choice c ≡ false → RowFits columns a p c (n - c) skip at m → RowFits columns a p (suc c) (n - suc c) skip at m
  fits_skip n c skip at m e h =
      either (ltb c n)
      (λ t.
      let q : n - c ≡ suc (n - suc c) = omega (arith, ltb-true c n t) in
      let f = none_planned c skip e in
      rw (f.0, f.1, add-zero at) at (fits_more c (n - suc c) skip at m (rw q at h)).1)
      (λ t. let q : n - suc c ≡ 0 = omega (arith, ltb-false c n t) in rw q (fits_none (suc c) skip at m))

  module _ (n skip at c j : ℕ) (is : j ≡ next_chosen p.cursor.choice c) where
    pub filled_next : (ys : List Cell) → filled columns a p mode c (n - c) skip at ys ≡ filled columns a p mode j (n - j) skip at ys
    filled_next ys =
        rw is
        (to_next p.cursor.choice (λ (i : ℕ). filled columns a p mode c (n - c) skip at ys ≡ filled columns a p mode i (n - i) skip at ys)
        (λ i e q. q ∙ filled_skip n i skip at ys e) c refl)

    pub fits_next : (m : ℕ) → RowFits columns a p c (n - c) skip at m → RowFits columns a p j (n - j) skip at m
    fits_next m h = rw is (to_next p.cursor.choice (λ (i : ℕ). RowFits columns a p i (n - i) skip at m) (λ i e q. fits_skip n i skip at m e q) c h)
