-- Opening is never refused in `first_weight`: so its answer is that of the cell read by the cursor that opening gives.
-- Assumes nothing.
use Prim.Native.Nat.{ℕ}
use mathlib.Core.Path.{◌≡◌, refl}
use mathlib.Core.Bool.{true}
use mathlib.Core.List.{List, [], ◌∷◌}
use Rattle.std.specs.Prelude.{Some}
use native.Mathlib.Omega.{arith}
use Rattle.ascii.specs.Text.{bytes}
use Rattle.layout.specs.declared.BinTable.{BinTable}
use Rattle.layout.specs.Names.{find_name}
use Rattle.layout.proofs.Named.{found_inside}
use Rattle.bintable.specs.Entry.{accepted, entry}
use Rattle.walk.specs.Scaled.{plain}
use Rattle.walk.specs.Walk.{read_cell}
use Rattle.walk.specs.Step.{listed, open_with, cursor_step}
use Rattle.walk.proofs.Choice.{among_here}
use Rattle.walk.proofs.Isolation.{entry_fits}
use Rattle.walk.proofs.Steps.{opens_some}
use Rattle.example.specs.Weight.{first_weight}

pub weight_read : (h a : List ℕ) (l : BinTable) (c : ℕ) → entry h a ≡ accepted l → find_name h l (bytes "WEIGHT") ≡ Some c
    → first_weight h a ≡ (cursor_step l a (open_with l a (listed (c ∷ [])) true).cursor (read_cell plain)).reply
weight_read h a l c e f =
    let o = opens_some l a (listed (c ∷ [])) true c (entry_fits h a l e) (found_inside h l (bytes "WEIGHT") c f).0
    (among_here c (c ∷ []) 0 (omega arith) refl) in
    rw (e, f, o)
