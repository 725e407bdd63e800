-- `any_items` meets its contract: the columns that are passed over hold nothing, and those between are not chosen.
use Rattle.std.proofs.Common.{rules, tests}
use Rattle.table.proofs.Columns.{callable}
use Rattle.table.proofs.NoItems.{any_told}
use Rattle.table.proofs.rows.any_items.Goals as goal

pub any-requires-clause-callable : goal.any-requires-clause-callable
any-requires-clause-callable c =
    callable _ _ (rw c.chosen_columns.ensures c.requires) (λ p k h. search rules)

pub returns : goal.returns
returns c =
    any_told c.args.layout c.args.choice c.requires _ _ (λ k b q h. search (rules, tests))
    c.any.result _ _ c.chosen_columns.ensures c.any.ensures.ran
