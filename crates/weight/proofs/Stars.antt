-- The text of a weight is ten stars only where the weight is no number or its text would have more than ten bytes;
-- else it says the exact value.
-- Assumes nothing.
use Prim.Native.Nat.{ℕ, ◌/◌, ◌^◌}
use mathlib.Core.Path.{◌≡◌, sym, ap, ◌∙◌}
use mathlib.Core.Bool.{Bool, false, true≢false, and-false}
use mathlib.Core.List.{List, ◌∷◌, ◌++◌, append_assoc}
use mathlib.Core.Logic.{◌⊎◌, inl, inr}
use lib.ListN.{length}
use lib.Dec.{T, eqb, leb}
use lib.Ieee.{fits}
use lib.Ieee.Bits.{of_bits-fits}
use borrow.Author.Tests.{leb-false}
use Rattle.std.specs.Prelude.{Float}
use Rattle.std.specs.Float.{nan, inf, fin, binary32}
use Rattle.std.specs.Float.Ieee.{of_bits}
use Rattle.std.specs.List.{list_all}
use Rattle.std.proofs.lemmas.List.Folds.{list_all-append}
use Rattle.ascii.specs.Number.{decimal_in}
use Rattle.ascii.proofs.Cases.{either}
use Rattle.weight.specs.declared.Edition.{Edition}
use Rattle.weight.specs.Weight.{decimals, sign_text, last_digits, stars, units_of, units_text, weight_text}
use Rattle.weight.specs.Reading.{Says, Unwritable}
use Rattle.weight.proofs.Reading.{units_within, weight_says}

abbrev star : ℕ → Bool
star b = eqb b 42

-- a text with a point is not stars only
pointed : (xs ys : List ℕ) → list_all star (xs ++ (46 ∷ ys)) ≡ false
pointed xs ys = list_all-append star xs (46 ∷ ys) ∙ and-false (list_all star xs)

not_stars : (ed : Edition) (s : Bool) (units : ℕ) → units_text ed s units ≡ stars → ⊥
unfolding units_text stars
not_stars ed s units e =
    let before = decimal_in 39 (units / 10 ^ decimals ed) in
    let after = last_digits (decimals ed) units in
    let p : list_all star (sign_text s units ++ (before ++ (46 ∷ after))) ≡ false =
    ap (list_all star) (sym (append_assoc (sign_text s units) before (46 ∷ after)))
    ∙ pointed (sign_text s units ++ before) after in
    true≢false (sym (ap (list_all star) e) ∙ p)

value_stars : (ed : Edition) (v : Float) → T (fits binary32 v) → weight_text ed v ≡ stars → Unwritable ed v
unfolding weight_text
value_stars ed nan f e = tt
value_stars ed (inf s) f e = tt
value_stars ed (fin s m x) f e =
    let units = units_of ed m x in
    let text = units_text ed s units in
    either (leb (length text) 10)
    (λ t. absurd (not_stars ed s units (rw t at e)))
    (λ t. let w = units_within ed s m x f in
    record { text = text; near = w.0; units = w.1; long = leb-false (length text) 10 t })

pub stars_only : (ed : Edition) (bits : ℕ) → weight_text ed (of_bits binary32 bits) ≡ stars
    → Unwritable ed (of_bits binary32 bits)
stars_only ed bits e = value_stars ed (of_bits binary32 bits) (of_bits-fits binary32 bits) e

-- so the text of every bit pattern is ten stars, and the float is no number or its text would have more than ten
-- bytes; or it says the float's exact value
pub weight_or_stars : (ed : Edition) (bits : ℕ)
    → ((weight_text ed (of_bits binary32 bits) ≡ stars) × Unwritable ed (of_bits binary32 bits))
    ⊎ Says ed (of_bits binary32 bits) (weight_text ed (of_bits binary32 bits))
weight_or_stars ed bits = by (weight_says ed bits)
  where
    v : Float
    v = of_bits binary32 bits

    by : (weight_text ed v ≡ stars) ⊎ Says ed v (weight_text ed v)
        → ((weight_text ed v ≡ stars) × Unwritable ed v) ⊎ Says ed v (weight_text ed v)
    by (inl e) = inl (e, stars_only ed bits e)
    by (inr s) = inr s
