-- What the search for the next entry says of it.
-- Assumes nothing.
use Rattle.std.specs.Prelude.{Option, Some, None}
use Prim.Native.Nat.{ℕ, ◌<◌}
use mathlib.Core.Path.{◌≡◌, refl, ap, subst}
use mathlib.Core.List.{List}
use lib.ListN.{length, get_or}
use Rattle.walk.specs.declared.Entry.{Entry}
use Rattle.walk.specs.declared.Entry.TheVariants.{OutsideHeap}
use Rattle.walk.specs.Walk.{Next, entry_at, no_entry}
use Rattle.walk.proofs.Laws.{IsNext}
use Rattle.table.specs.declared.rows.NextPlace.{NextPlace}
use Rattle.table.specs.NextPlace.{next_place}

abbrev IsNone : Option NextPlace → Type 0
IsNone (Some p) = ⊥
IsNone None = Unit {0}

module _ (rows : ℕ → List Entry) (n : ℕ) where
  -- the search for the next entry ended at this place
  abbrev pub IsPlace : Next → NextPlace → Type 0
  IsPlace x q =
      (x ≡ entry_at q.row q.passed (get_or (rows q.row) q.passed (OutsideHeap 0)))
      × ((q.size ≡ length (rows q.row)) × ((q.passed < q.size) × (q.row < n)))

  pub place_at : (x : Next) (q : NextPlace) → IsNext rows n x → next_place rows x ≡ Some q → IsPlace x q
  place_at no_entry q h e = absurd (subst IsNone e tt)
  place_at (entry_at r p x) q h e =
      let w : ◌≡◌ {A = NextPlace} (record { row = r; passed = p; size = length (rows r) }) q = cc in
      let a : r ≡ q.row = ap (λ (k : NextPlace). k.row) w in
      let b : p ≡ q.passed = ap (λ (k : NextPlace). k.passed) w in
      let s : length (rows r) ≡ q.size = ap (λ (k : NextPlace). k.size) w in
      rw (← s, ← a, ← b) (ap (entry_at r p) h.0, (refl, (h.1.0, h.1.1)))

  pub place_none : (x : Next) → next_place rows x ≡ None → x ≡ no_entry
  place_none no_entry q = refl
  place_none (entry_at r p e) q = cc
