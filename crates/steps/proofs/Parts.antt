-- The parts of a line, taken from the front: what a walk over its places meets.
-- Assumes nothing.
use mathlib.Core.Path.{◌≡◌, refl, ap, ◌∙◌}
use mathlib.Core.List.{List, [], ◌∷◌}
use mathlib.Core.Bool.{cond}
use Prim.Native.Nat.{ℕ, suc, ◌+◌, ◌≤◌}
use native.Mathlib.Omega.{arith}
use lib.ListN.{length, take, drop, length-drop}
use lib.Dec.{eqb, ltb, leb, leb-suc-suc}
use borrow.Author.Tests.{lt-ltb, le-leb, lt-leb, ltb-true, ltb-false}
use Rattle.ascii.specs.Text.{front}
use Rattle.ascii.proofs.Cases.{either}
use Rattle.steps.specs.Split.{prepend, parts, before}
use Rattle.steps.proofs.Lines.{after}

-- the first part of a line, and the parts after its space
first_part : (s : List ℕ) → parts s ≡ take (before 32 s) s ∷ cond (ltb (before 32 s) (length s)) (parts (drop (suc (before 32 s)) s)) []
unfolding parts front
first_part [] = refl
first_part (b ∷ bs) =
    either (eqb b 32) (λ e. rw (e, lt-ltb 0 (suc (length bs)) (omega arith)))
    (λ e. rw (e, leb-suc-suc (suc (before 32 bs)) (length bs)) (ap (prepend b) (first_part bs)))

-- the parts from a place of a line on; none past its end
abbrev pub parts_from : List ℕ → ℕ → List (List ℕ)
parts_from s at = cond (leb at (length s)) (parts (drop at s)) []

pub parts_next : (s : List ℕ) (at : ℕ) → at ≤ length s → parts_from s at ≡ take (before 32 (drop at s)) (drop at s) ∷ parts_from s (at + before 32 (drop at s) + 1)
parts_next s at h =
    let n = before 32 (drop at s) in
    rw (le-leb at (length s) h)
    (first_part (drop at s)
    ∙ either (ltb n (length (drop at s)))
    (λ e. rw (e, le-leb (at + n + 1) (length s) (omega (arith, ltb-true n (length (drop at s)) e, length-drop at s)), after s at n))
    (λ e. rw (e, lt-leb (at + n + 1) (length s) (omega (arith, ltb-false n (length (drop at s)) e, length-drop at s)))))
