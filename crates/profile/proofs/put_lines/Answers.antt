-- `put_lines` meets its contract: each line has 27 bytes, so line i begins behind those before it.
use Rattle.std.proofs.Common.{ℕ, ◌≡◌, ◌+◌, ◌-◌, ◌*◌, ◌<◌, List, ◌++◌, length, refl, ap, ◌∙◌, arith}
use mathlib.Core.List.{flat_map}
use Rattle.ascii.specs.Buffer.{put_in}
use Rattle.ascii.proofs.Lengths.{part_put}
use Rattle.ascii.proofs.Pieces.{next_piece, pieces_length}
use Rattle.weight.proofs.Width.{weight_length}
use Rattle.profile.specs.Lines.{line_of, lines}
use Rattle.profile.proofs.Puts.{next_put}
use Rattle.profile.proofs.Widths.{line_length}
use Rattle.profile.proofs.put_lines.Goals as goal

pub loop-i-init : goal.loop-i-init
unfolding put_in flat_map
loop-i-init c = refl

pub loop-i-preserved : goal.loop-i-preserved
loop-i-preserved c =
    let f = c.args.field in
    let ed = c.args.edition in
    let i : ℕ = c.loop-i.i in
    let o = c.args.page.now in
    let t : List ℕ = line_of f ed i in
    let each : (j : ℕ) → j < 0 + c.args.n → length (line_of f ed j) ≡ 27 =
    λ j h. line_length f.row j _ c.requires.row (omega arith) (weight_length ed _) in
    let before : length (lines f ed i) ≡ i * 27 =
    pieces_length (line_of f ed) 27 0 i (λ j h. each j (omega arith)) in
    let long : length t ≡ 27 = each i (omega arith) in
    let place : f.at + i * 4 + 0 ≡ f.at + i * 4 = omega arith in
    let is : c.put_line.new.line ≡ t = rw (← place, ← c.u32_at-bits.ensures) c.put_line.ensures in
    let more : lines f ed (i + 1) ≡ lines f ed i ++ t =
    next_piece (line_of f ed) 0 i ∙ ap (λ (j : ℕ). lines f ed i ++ line_of f ed j) (omega arith) in
    rw (more, is)
    (part_put c.loop-i.page t (i * 27) ((i + 1) * 27 - i * 27) (omega (arith, long))
    ∙ next_put o (lines f ed i) (i * 27) c.loop-i.page c.loop-i.invariant before t (omega arith))
