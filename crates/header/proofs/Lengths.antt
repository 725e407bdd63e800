-- The length of a header, and what the checks and the names read come to where it is bad.
-- Assumes nothing.
use mathlib.Core.Path.{◌≡◌, sym, ◌∙◌}
use mathlib.Core.Bool.{true, false, or-true, true≢false}
use mathlib.Core.List.{List, []}
use Prim.Native.Nat.{ℕ, ◌≤◌, ◌<◌}
use lib.ListN.{length}
use lib.Dec.{eqb, ltb}
use borrow.Author.Tests.{lt-ltb, ltb-true, ltb-false}
use Rattle.ascii.proofs.Cases.{either}
use Rattle.refusal.specs.Refusal.{refused}
use Rattle.header.specs.Checks.{bad_length, check1, checked, names_read}

module _ (h : List ℕ) where
  pub length_over : 57600 < length h → bad_length h ≡ true
  unfolding bad_length
  length_over p = rw (lt-ltb 57600 (length h) p) (or-true (eqb (length h) 0))

  pub bad_check : bad_length h ≡ true → refused 1 0 ≡ checked h
  unfolding checked check1
  bad_check e = rw e

  pub bad_read : bad_length h ≡ true → names_read h ≡ []
  unfolding names_read
  bad_read e = rw e

  -- a good length is at most 57,600
  pub length_small : bad_length h ≡ false → length h ≤ 57600
  length_small e = either (ltb 57600 (length h)) (λ t. absurd (true≢false (sym (length_over (ltb-true 57600 (length h) t)) ∙ e))) (λ t. ltb-false 57600 (length h) t)
