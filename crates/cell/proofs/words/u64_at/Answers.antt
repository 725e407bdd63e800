-- `u64_at` meets its contract: inside the area its bytes are those of the slice.
use Rattle.std.proofs.Common.{◌∙◌, arith}
use Rattle.std.proofs.lemmas.Grind.{common_steps}
use Rattle.cell.proofs.Numbers.{word_of_8}
use Rattle.cell.proofs.words.u64_at.Goals as goal

pub returns-then-at-area : goal.returns-then-at-area
returns-then-at-area c = c.from_be_bytes.ensures ∙ word_of_8 _ c.unwrap.result _ (λ i h. grind (arith, common_steps))
