-- `put_right` meets its contract: the spaces and the text one after the other, where there is room for both.
use Rattle.std.proofs.Common.{ℕ, ◌++◌, replicate, sym, ap, arith}
use lib.ListN.{length-append, length-replicate}
use borrow.Author.Tests.{leb-true, leb-false}
use Rattle.ascii.specs.Number.{right_aligned}
use Rattle.ascii.proofs.Chain.{right_length, joined, tried, tried_as, not_tried}
use Rattle.ascii.proofs.buffer.put_right.Goals as goal

pub returns-then-not-has_room : goal.returns-then-not-has_room
returns-then-not-has_room c =
    let a = c.args in
    let over = leb-false _ _ (sym c.if-not-has_room.ensures) in
    let t = not_tried a.out.now a.at (right_aligned a.width a.text.now)
    (omega (arith, over, right_length a.width a.text.now)) in
    record { place = t.0; buffer = t.1 }

pub returns : goal.returns
returns c =
    let a = c.args in
    let k = c.saturating_sub-spaces.result in
    let n = length-replicate {A = ℕ} k 32 in
    let fits = leb-true _ _ (sym c.if-not-has_room.ensures) in
    let both = joined a.out.now a.at (replicate k 32) a.text.now (omega (arith, fits, c.copy.ensures.place))
    (omega (arith, n), c.fill_spaces.ensures) (c.copy.ensures.place, c.copy.ensures.buffer) in
    let t = tried_as a.out.now a.at (ap (λ (m : ℕ). replicate m 32 ++ a.text.now) c.saturating_sub-spaces.ensures)
    (tried a.out.now a.at (replicate k 32 ++ a.text.now) (simp length-append (omega (arith, n, fits))) both) in
    record { place = t.0; buffer = t.1 }
