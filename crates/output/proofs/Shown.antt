-- The lines of a table's cells, as the plain list gives them: every cell once and in order, then the end with their number; at a 13 the cells before it, then the
-- refusal.
-- Assumes nothing.
use Prim.Native.Nat.{ℕ, suc, ◌+◌, ◌≤◌, min}
use mathlib.Core.Path.{◌≡◌, refl, ap}
use mathlib.Core.List.{List, [], ◌∷◌, ◌++◌, map}
use native.Mathlib.Omega.{arith}
use lib.ListN.{length}
use Rattle.cell.specs.declared.Cell.{Cell}
use Rattle.walk.specs.declared.Entry.{Entry}
use Rattle.walk.specs.declared.Entry.TheVariants as E
use Rattle.walk.specs.Walk.{stop}
use Rattle.listing.specs.Lines.{cell_line, end_line, refused_line}
use Rattle.output.specs.Cells.{entry_lines}

abbrev pub entries : List Cell → List Entry
entries [] = []
entries (c ∷ cs) = E.Cell c ∷ entries cs

pub shown_all : (cs : List Cell) (n : ℕ) → n + length cs ≤ stop → entry_lines n (entries cs) ≡ map cell_line cs ++ (end_line (n + length cs) ∷ [])
unfolding entry_lines
shown_all [] n h = let z : n + 0 ≡ n = omega arith in rw z
shown_all (c ∷ cs) n h =
    let z : min stop (n + 1) ≡ n + 1 = omega arith in
    let y : n + 1 + length cs ≡ n + suc (length cs) = omega arith in
    rw (z, ← y) (ap (λ (ts : List (List ℕ)). cell_line c ∷ ts) (shown_all cs (n + 1) (omega arith)))

pub shown_outside : (cs : List Cell) (k : ℕ) (es : List Entry) (n : ℕ) → entry_lines n (entries cs ++ (E.OutsideHeap k ∷ es)) ≡ map cell_line cs ++ (refused_line 13 k ∷ [])
unfolding entry_lines
shown_outside [] k es n = refl
shown_outside (c ∷ cs) k es n = ap (λ (ts : List (List ℕ)). cell_line c ∷ ts) (shown_outside cs k es (min stop (n + 1)))
