-- The bytes of a file that are looked at.
-- Assumes nothing.
use Prim.Native.Nat.{ℕ, min}
use mathlib.Core.Path.{◌≡◌, sym, ◌∙◌}
use mathlib.Core.List.{List}
use native.Mathlib.Omega.{arith}
use lib.Dec.{ltb}
use lib.ListN.{length, take}
use lib.Seq.{take_all}
use borrow.Author.Tests.{ltb-true, ltb-false}
use Rattle.ascii.proofs.Cases.{either}
use Rattle.output.specs.Cells.{file_limit}

-- the bytes that are looked at, of a file of any length
pub first_part : (f : List ℕ) → take (min (length f) file_limit) f ≡ take file_limit f
first_part f =
    either (ltb (length f) file_limit)
    (λ b.
    let h = ltb-true _ _ b in
    let m : min (length f) file_limit ≡ length f = omega (arith, h) in
    rw m (take_all (length f) f (omega arith) ∙ sym (take_all file_limit f (omega (arith, h)))))
    (λ b. let m : min (length f) file_limit ≡ file_limit = omega (arith, ltb-false _ _ b) in rw m)
