-- `add_front` meets its contract: it folds the first cells.
use Rattle.std.proofs.Common.{◌∙◌, take, rules, tests}
use Rattle.std.proofs.lemmas.Iterator.{YieldsList-from_slice}
use Rattle.std.proofs.lemmas.Iterator.Consumers.{fold_from_yields_List}
use Rattle.exports.specs.Checksum.{add_cell}
use Rattle.exports.proofs.Sums.{cells_folded}
use Rattle.exports.proofs.rows.add_front.Goals as goal

pub returns : goal.returns
returns c =
    fold_from_yields_List _ add_cell c.args.sum _ c.fold.ensures.ran (YieldsList-from_slice (take c.args.n c.args.list.now) c.iter.ensures.rest)
    (λ a x b q k. search (rules, tests))
    ∙ cells_folded c.args.sum (take c.args.n c.args.list.now)
