-- `add_bytes` meets its contract: it folds the bytes.
use Rattle.std.proofs.Common.{◌∙◌, rules, tests}
use Rattle.std.proofs.lemmas.Iterator.{YieldsList-from_slice}
use Rattle.std.proofs.lemmas.Iterator.Consumers.{fold_from_yields_List}
use Rattle.exports.specs.Checksum.{add_word}
use Rattle.exports.proofs.Sums.{words_folded}
use Rattle.exports.proofs.columns.add_bytes.Goals as goal

pub returns : goal.returns
returns c =
    fold_from_yields_List _ add_word c.args.sum _ c.fold.ensures.ran (YieldsList-from_slice c.args.text.now c.iter.ensures.rest)
    (λ a x b q k. search (rules, tests))
    ∙ words_folded c.args.sum c.args.text.now
