-- Whether an argument is too long, over the arguments as the code has them.
-- Assumes nothing.
use Prim.Native.Nat.{ℕ}
use mathlib.Core.Path.{◌≡◌, refl, ap}
use mathlib.Core.Bool.{Bool, ◌||◌}
use mathlib.Core.List.{List, [], ◌∷◌, map}
use Rattle.std.specs.Borrow.{Bor}
use Rattle.std.specs.List.{list_any}

pub any_lent : (test : List ℕ → Bool) (args : List (Bor (List ℕ)))
    → list_any (λ (a : Bor (List ℕ)). test a.now) args ≡ list_any test (map (λ a. a.now) args)
any_lent test [] = refl
any_lent test (a ∷ args) = ap (λ (b : Bool). test a.now || b) (any_lent test args)
