-- `load_block` meets its contract: each row is copied from within the table.
use Rattle.std.proofs.Common.{ℕ, ◌≡◌, ◌+◌, ◌-◌, ◌*◌, ◌<◌, length, get_or}
use Rattle.std.proofs.Common.{ap, ◌∙◌, arith, length-take, length-drop}
use Rattle.std.proofs.lemmas.List.Edits.{get_or-between}
use Rattle.turn.specs.Blocks.{byte_at}
use Rattle.turn.proofs.Steps.{part_fits, loaded}
use Rattle.turn.proofs.blocks.load_block.Goals as goal

pub slice_bounds-copy_from_slice-end-in-loop-r : goal.slice_bounds-copy_from_slice-end-in-loop-r
slice_bounds-copy_from_slice-end-in-loop-r c =
    let t = c.args.table in
    let b = c.args.block in
    let row : ℕ = b.first_row + c.loop-r.r in
    omega (arith, part_fits row t.rows t.width b.first_place b.places (omega arith) c.requires.in_table.places)

pub loop-r-preserved : goal.loop-r-preserved
loop-r-preserved c =
    let t = c.args.table in
    let b = c.args.block in
    let m : ℕ = c.loop-r.r in
    let n : ℕ = m * 64 + b.places - m * 64 in
    let ys = c.copy_from_slice.new.self in
    let at : ℕ = (b.first_row + m) * t.width + b.first_place in
    let len : length ys ≡ n = simp (length-take, length-drop) at c.copy_from_slice.ensures.len ∙ omega arith in
    let bytes : (p : ℕ) → p < n → get_or ys p 0 ≡ byte_at t (b.first_row + m) (b.first_place + p) =
    λ p h. ap (λ xs. get_or xs p 0) c.copy_from_slice.ensures.after
    ∙ get_or-between t.bytes.now at (at + b.places) p 0 (omega arith)
    ∙ ap (λ i. get_or t.bytes.now i 0) (omega arith) in
    loaded t b 64 c.loop-r.tile ys m n (omega arith) (omega arith) (omega arith) len bytes c.loop-r.invariant
