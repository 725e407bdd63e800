-- `eight_at` meets its contract: the upper and the lower ones of eight bytes. Each answer is `upper` or `lower` at its
-- own number of bytes.
use Rattle.std.proofs.Common.{arith, ◌∙◌}
use Rattle.std.proofs.lemmas.Nat.{and_mask}
use Rattle.cell.proofs.Numbers.{upper, lower}
use Rattle.cell.proofs.words.eight_at.Goals as goal

pub returns-clause-four : goal.returns-clause-four
returns-clause-four c = upper _ (λ i. omega (arith, c.type_inv.area i)) _ 4 4 c.u64_at.ensures

pub returns-clause-two : goal.returns-clause-two
returns-clause-two c = upper _ (λ i. omega (arith, c.type_inv.area i)) _ 2 6 c.u64_at.ensures

pub returns-clause-one : goal.returns-clause-one
returns-clause-one c = upper _ (λ i. omega (arith, c.type_inv.area i)) _ 1 7 c.u64_at.ensures

pub returns-clause-last_four : goal.returns-clause-last_four
returns-clause-last_four c =
    and_mask _ 32 ∙ lower _ (λ i. omega (arith, c.type_inv.area i)) _ 4 4 c.u64_at.ensures
