-- What a writer holds after a text is put at its end.
-- Assumes nothing.
use Prim.Native.Nat.{ℕ, ◌+◌, ◌≤◌}
use mathlib.Core.Path.{◌≡◌}
use mathlib.Core.List.{List, ◌++◌, append_assoc}
use native.Mathlib.Omega.{arith}
use lib.Dec.{leb}
use lib.ListN.{length, take, length-append}
use lib.Seq.{length-take-le}
use borrow.Author.Tests.{le-leb, leb-true}
use Rattle.ascii.specs.Buffer.{written, place_after}
use Rattle.ascii.proofs.Cases.{by_test, either}
use Rattle.ascii.proofs.Lengths.{take_put, decimal_length}
use Rattle.listing.specs.Writer.{room, appended}

-- a text that there is room for stands at the end, and a line has no more than the two
pub fits : (w t : List ℕ) → length w + length t ≤ room → appended w t ≡ w ++ t
unfolding appended
fits w t h = rw (le-leb (length w + length t) room h)

pub appended_length : (w t : List ℕ) → length (appended w t) ≤ length w + length t
unfolding appended
appended_length w t =
    by_test (λ (s : List ℕ). length s ≤ length w + length t) (leb (length w + length t) room)
    (λ _. simp length-append (omega arith)) (λ _. omega arith)

-- the array o of a writer, filled up to place `at`, after the text t is put there
module _ (o : List ℕ) (at : ℕ) (t : List ℕ) (size : length o ≡ room) (inside : at ≤ room) where
  place : length (take at o) ≡ at
  place = length-take-le at o (omega arith)

  pub put_inside : place_after o at t ≤ room
  unfolding place_after
  put_inside =
      by_test (λ (n : ℕ). n ≤ room) (leb (at + length t) (length o)) (λ y. omega (arith, leb-true _ _ y)) (λ _. inside)

  pub put_text : take (place_after o at t) (written o at t) ≡ appended (take at o) t
  unfolding place_after written appended
  put_text =
      rw (place, size)
      (either (leb (at + length t) room) (λ y. rw y (take_put o at t (omega (arith, leb-true _ _ y)))) (λ n. rw n))

-- what `put` and `put_number` go by
pub ruleset put_steps = (put_inside, put_text, fits, appended_length, decimal_length)

-- pieces that are put one after another are one text
pub ruleset pieces = (append_assoc)
