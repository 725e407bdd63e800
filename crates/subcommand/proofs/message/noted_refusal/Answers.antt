-- `noted_refusal` meets its contract: its pieces are those of the line.
use Rattle.std.proofs.Common.{ℕ, List, [], ◌∷◌, ◌++◌, codes, map, ap}
use Rattle.std.specs.List.{concat}
use Rattle.subcommand.proofs.Pieces.{line_parts}
use Rattle.subcommand.proofs.message.noted_refusal.Goals as goal

pub returns : goal.returns
returns c =
    let n = c.args.numbers in
    let words = concat (map (λ p. p.now) c.args.words) in
    ap (λ (t : List ℕ). concat (map (λ p. p.now) c.args.note) ++ t)
    (line_parts
    (codes "coentrift: refused " ∷ n.number.now ∷ codes " " ∷ n.place.now ∷ codes ": " ∷ []) words (codes "\n"))
