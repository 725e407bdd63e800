-- What the checks say of the sizes of a header that passes them.
-- Assumes nothing.
use Rattle.std.specs.Prelude.{Option, Some, None}
use mathlib.Core.Path.{◌≡◌, refl}
use mathlib.Core.Bool.{Bool, true, false}
use mathlib.Core.List.{List, ◌∷◌}
use Prim.Native.Nat.{ℕ, ◌≤◌}
use native.Mathlib.Nat.{mul-le-mul}
use native.Mathlib.Omega.{arith}
use lib.Dec.{leb}
use borrow.Author.Tests.{leb-true}
use Rattle.card.specs.declared.Value.{Value}
use Rattle.refusal.specs.Refusal.{Outcome, accepted, refused, before}
use Rattle.bintable.specs.Checks.{is_integer, not_negative, size_in, value_at, record_for, size_for, unless, check7, first_refusal}
use Rattle.bintable.specs.Entry.{limited, main_of, nine}
use Rattle.bintable.proofs.Nine.{sizes}

pub refused_not : {A : Type 0} (n p : ℕ) → refused n p ≡ accepted → A
refused_not n p e = cc

pub both_accepted : (a b : Outcome) → before a b ≡ accepted → (a ≡ accepted) × (b ≡ accepted)
both_accepted accepted b e = (refl, e)
both_accepted (refused n p) b e = refused_not n p e

pub first_accepted : (o : Outcome) (os : List Outcome) → first_refusal (o ∷ os) ≡ accepted → (o ≡ accepted) × (first_refusal os ≡ accepted)
unfolding first_refusal
first_accepted o os e = both_accepted o (first_refusal os) e

-- a check that passes a record that is there
pub unless_holds : (number : ℕ) (t : Bool) (k : ℕ) → unless number t (Some k) ≡ accepted → t ≡ true
unless_holds number true k e = refl
unless_holds number false k e = refused_not number k e

pub limit_holds : (limit : ℕ) (v : Option Value) (k : ℕ) → check7 limit v (Some k) ≡ accepted → size_in v ≤ limit
limit_holds limit v k e = leb-true (size_in v) limit (unless_holds 7 (leb (size_in v) limit) k e)

module _ (h : List ℕ) where
  pub value_limit : (r : Option ℕ) (kind right : Option Value → Bool) (limit : ℕ) → limited h r kind right limit ≡ accepted → size_in (value_at h r) ≤ limit
  unfolding limited
  value_limit (Some k) kind right limit e =
      let a = first_accepted _ _ e in let b = first_accepted _ _ a.1 in let c = first_accepted _ _ b.1 in
      limit_holds limit (value_at h (Some k)) k (first_accepted _ _ c.1).0
  value_limit None kind right limit e = omega arith

  -- the three sizes
  pub size_limits : first_refusal (sizes h) ≡ accepted → (size_for h "NAXIS1" ≤ 1048576) × ((size_for h "NAXIS2" ≤ 16777216) × (size_for h "PCOUNT" ≤ 2147483647))
  unfolding nine
  size_limits e =
      let a = first_accepted _ _ e in let b = first_accepted _ _ a.1 in let c = first_accepted _ _ b.1 in (
        value_limit (record_for h "NAXIS1") is_integer not_negative 1048576 a.0,
        (value_limit (record_for h "NAXIS2") is_integer not_negative 16777216 b.0, value_limit (record_for h "PCOUNT") is_integer not_negative 2147483647 c.0),
      )

  pub main_limit : first_refusal (sizes h) ≡ accepted → main_of h ≤ 17592186044416
  main_limit e = let l = size_limits e in mul-le-mul l.0 l.1.0
