-- The text of a weight has ten places at most, so it has ten with the spaces in front.
-- Assumes nothing.
use Prim.Native.Nat.{ℕ, ◌≤◌}
use mathlib.Core.Path.{◌≡◌}
use mathlib.Core.List.{List}
use native.Mathlib.Omega.{arith}
use lib.ListN.{length}
use lib.Dec.{leb}
use borrow.Author.Tests.{leb-true}
use Rattle.std.specs.Prelude.{Float}
use Rattle.std.specs.Float.{nan, inf, fin}
use Rattle.ascii.specs.Number.{right_aligned}
use Rattle.ascii.proofs.Cases.{by_test}
use Rattle.ascii.proofs.Chain.{right_length}
use Rattle.weight.specs.declared.Edition.{Edition}
use Rattle.weight.specs.Weight.{stars, in_ten_places, units_of, units_text, weight_text}

stars_length : length stars ≤ 10
unfolding stars
stars_length = omega arith

in_ten_places_length : (text : List ℕ) → length (in_ten_places text) ≤ 10
in_ten_places_length text =
    by_test (λ (t : List ℕ). length t ≤ 10) (leb (length text) 10)
    (λ t. leb-true (length text) 10 t)
    (λ t. stars_length)

pub weight_length : (ed : Edition) (v : Float) → length (weight_text ed v) ≤ 10
unfolding weight_text
weight_length ed nan = stars_length
weight_length ed (inf s) = stars_length
weight_length ed (fin s m e) = in_ten_places_length (units_text ed s (units_of ed m e))

pub weight_places : (ed : Edition) (v : Float) → length (right_aligned 10 (weight_text ed v)) ≡ 10
weight_places ed v = omega (arith, right_length 10 (weight_text ed v), weight_length ed v)
