-- `turn_band` meets its contract: narrow rows hold the block as they are.
use Rattle.std.proofs.Common.{ℕ, ◌+◌, ◌*◌, get_or, ap, arith, length-take, length-drop}
use Rattle.turn.proofs.Part.{get_from}
use Rattle.turn.proofs.Steps.{part_fits}
use Rattle.turn.proofs.blocks.turn_band.Goals as goal

pub store_block-requires-clause-held : goal.store_block-requires-clause-held
store_block-requires-clause-held c r p hr hp =
    let t = c.args.table in
    let at : ℕ = c.args.first_row * t.width in
    let fits = part_fits (c.args.first_row + r) t.rows t.width p 1 (omega arith) (omega arith) in (
      simp (length-take, length-drop) (omega arith),
      get_from t.bytes.now at (r * t.width + p) _ (omega arith, ap (λ i. get_or t.bytes.now i 0) (omega arith)),
    )
