-- `leading_spaces` meets its contract: it counts what `take_while` takes. The closure's test is the one thing that a lemma for all
-- three would have to leave open, so it would say this once more.
use Rattle.std.proofs.Common.{◌∙◌, rules, tests}
use Rattle.std.proofs.lemmas.Iterator.{YieldsList-from_slice}
use Rattle.std.proofs.lemmas.Iterator.Consumers.{count_from_yields_List}
use Rattle.std.proofs.lemmas.Iterator.Search.{YieldsList-from_take_while}
use Rattle.ascii.specs.Text.{space}
use Rattle.ascii.proofs.Library.{front_taken}
use Rattle.ascii.proofs.leading_spaces.Goals as goal

pub returns : goal.returns
returns c =
    count_from_yields_List c.take_while.result _ c.count.ensures.ran
    (YieldsList-from_take_while _ space (YieldsList-from_slice c.args.s.now (cc)) c.take_while.ensures.closure
    c.take_while.ensures.done (λ x b q k. search (rules, tests)))
    ∙ front_taken space c.args.s.now
