-- Going by the cases of a test inside a statement, with what the test says at hand in each case.
-- Assumes nothing.
use Rattle.std.specs.Prelude.{Option, Some, None}
use mathlib.Core.Path.{◌≡◌, refl}
use mathlib.Core.Bool.{Bool, true, false, cond}
-- both halves of a test that holds
pub use Rattle.std.proofs.lemmas.Bool.{and_parts as both}

-- P of a choice by the test t. The library's `cond_both` wants both values written out too.
pub by_test {ℓ} : {A : Type ℓ} (P : A → Type 0) (t : Bool) {x y : A} → (t ≡ true → P x) → (t ≡ false → P y) → P (cond t x y)
by_test P true f g = f refl
by_test P false f g = g refl

-- Q of two choices by the same test
pub by_both {ℓ κ} : {A : Type ℓ} {B : Type κ} (Q : A → B → Type 0) (t : Bool) {x y : A} {u v : B} → (t ≡ true → Q x u) → (t ≡ false → Q y v)
    → Q (cond t x y) (cond t u v)
by_both Q true f g = f refl
by_both Q false f g = g refl

-- a fact that holds whichever way a test goes
pub either {ℓ} : {P : Type ℓ} (t : Bool) → (t ≡ true → P) → (t ≡ false → P) → P
either true f g = f refl
either false f g = g refl

-- an option that has no value
pub no_value : {A : Type 0} (f : Option A) → ((x : A) → f ≡ Some x → ⊥) → f ≡ None
no_value None h = refl
no_value (Some x) h = absurd (h x refl)
