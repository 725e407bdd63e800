-- The first weight where recipes write the column's name in either case.
-- Assumes nothing.
use Prim.Native.Nat.{ℕ}
use mathlib.Core.Path.{◌≡◌, refl, ap}
use mathlib.Core.Bool.{true}
use mathlib.Core.List.{List}
use lib.Pointwise.{pointwise}
use Rattle.ascii.specs.Text.{bytes}
use Rattle.layout.specs.Names.{alike}
use Rattle.layout.proofs.EitherCase.{found_other_header}
use Rattle.bintable.specs.Entry.{accepted, refused, entry, Entry}
use Rattle.example.specs.Weight.{weight_of, weight_by, first_weight}

weight_by_lem : (g h a : List ℕ) → pointwise alike g h ≡ true → (e : Entry) → weight_by g a e ≡ weight_by h a e
weight_by_lem g h a q (accepted l) = ap (weight_of l a) (found_other_header g h q l (bytes "WEIGHT"))
weight_by_lem g h a q (refused n p) = refl

-- two headers that differ in the case of letters alone and are the same to the entry give the same first weight
pub weight_other_header : (g h a : List ℕ) → pointwise alike g h ≡ true → entry g a ≡ entry h a
    → first_weight g a ≡ first_weight h a
weight_other_header g h a q e = rw e (weight_by_lem g h a q (entry h a))
