-- `store_block` meets its contract: at each place the bytes that `gather` takes are those of the block's rows.
use Rattle.std.proofs.Common.{ℕ, ◌≡◌, ◌+◌, ◌*◌, ◌<◌, length, get_or}
use Rattle.std.proofs.Common.{◌∙◌, arith, length-take, length-drop}
use Rattle.turn.specs.Blocks.{byte_at}
use Rattle.turn.proofs.Part.{get_from}
use Rattle.turn.proofs.Steps.{part_fits, stored}
use Rattle.turn.proofs.blocks.store_block.Goals as goal

pub slice_bounds-gather-end-in-loop-p : goal.slice_bounds-gather-end-in-loop-p
slice_bounds-gather-end-in-loop-p c =
    let t = c.args.table in
    let b = c.args.block in
    let place : ℕ = b.first_place + c.loop-p.p in
    omega (arith, part_fits place t.width t.rows b.first_row b.rows (omega arith) c.requires.in_table.rows)

pub gather-requires : goal.gather-requires
gather-requires c k h =
    let held = c.requires.held k c.loop-p.p (omega (arith, h, length-take {A = ℕ})) c.loop-p-test.true in
    simp (length-take, length-drop) (omega (arith, held.0))

pub loop-p-preserved : goal.loop-p-preserved
loop-p-preserved c =
    let t = c.args.table in
    let b = c.args.block in
    let p : ℕ = c.loop-p.p in
    let place : ℕ = b.first_place + p in
    let inside : place < t.width = omega arith in
    let rows = c.requires.in_table.rows in
    let fits = part_fits place t.width t.rows b.first_row b.rows inside rows in
    let room = c.requires.room in
    let ys = c.gather.new.out in
    let len : length ys ≡ b.rows = simp (length-take, length-drop) at c.gather.auto.out ∙ omega arith in
    let bytes : (k : ℕ) → k < b.rows → get_or ys k 0 ≡ byte_at t (b.first_row + k) place =
    λ k h. c.gather.ensures k (omega arith)
    ∙ get_from c.args.source.now p (k * c.args.stride) _ (c.requires.held k p h c.loop-p-test.true) in
    let was = c.loop-p.invariant in
    let s = stored t c.loop-p.to ys b.first_row b.rows _ place (omega arith) rows inside (omega arith) len bytes
    c.args.to.now b.first_place (b.first_place + (p + 1)) (omega arith) was.kept was.placed in
    record { kept = s.0; placed = s.1 }
