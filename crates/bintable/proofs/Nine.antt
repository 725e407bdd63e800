-- The nine checks in three parts.
-- Assumes nothing.
use mathlib.Core.Path.{◌≡◌, ◌∙◌, ap, sym}
use mathlib.Core.List.{List, ◌++◌}
use lib.ListN.{take, drop}
use Prim.Native.Nat.{ℕ}
use Rattle.refusal.specs.Refusal.{Outcome, before}
use Rattle.bintable.specs.Checks.{first_refusal}
use Rattle.bintable.specs.Entry.{nine, nine_checks}
use Rattle.bintable.proofs.Checked.{before_assoc, first_append}

-- XTENSION, BITPIX and NAXIS; NAXIS1, NAXIS2 and PCOUNT; GCOUNT, TFIELDS and THEAP
abbrev pub kinds : List ℕ → List Outcome
kinds h = take 3 (nine h)

abbrev pub sizes : List ℕ → List Outcome
sizes h = take 3 (drop 3 (nine h))

abbrev pub rest : List ℕ → List Outcome
rest h = drop 6 (nine h)

pub nine_parts : (h : List ℕ) → nine_checks h ≡ before (before (first_refusal (kinds h)) (first_refusal (sizes h))) (first_refusal (rest h))
unfolding nine_checks nine
nine_parts h =
    first_append (kinds h) (sizes h ++ rest h)
    ∙ (ap (before (first_refusal (kinds h))) (first_append (sizes h) (rest h))
    ∙ sym (before_assoc (first_refusal (kinds h)) (first_refusal (sizes h)) (first_refusal (rest h))))
