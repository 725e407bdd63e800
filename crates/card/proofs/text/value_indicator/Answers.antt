-- `value_indicator` meets its contract: the two bytes at the front of those from byte 9 on.
use Rattle.std.proofs.Common.{◌∷◌, [], List, ℕ, take, drop, ◌∙◌, ap, arith}
use lib.Seq.{take-take}
use Rattle.ascii.specs.Text.{bytes, same}
use Rattle.ascii.proofs.Library.{same_swapped}
use Rattle.card.specs.Record.{has_value}
use Rattle.card.proofs.text.value_indicator.Goals as goal

pub returns : goal.returns
unfolding has_value bytes
returns c =
    let part = take 72 (drop 8 c.args.s.now) in
    c.starts_with.ensures.value ∙ same_swapped (take 2 part) (61 ∷ 32 ∷ [])
    ∙ ap (λ (l : List ℕ). same l (61 ∷ 32 ∷ [])) (take-take 2 72 (drop 8 c.args.s.now) (omega arith))
