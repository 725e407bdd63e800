-- `len_before` meets its contract: it counts what `take_while` takes. The closure's test is the one thing that a lemma for all
-- three would have to leave open, so it would say this once more.
use Rattle.std.proofs.Common.{◌∙◌, ℕ, rules, tests}
use Rattle.std.specs.Prelude.{nat_eq, not}
use Rattle.std.proofs.lemmas.Iterator.{YieldsList-from_slice}
use Rattle.std.proofs.lemmas.Iterator.Consumers.{count_from_yields_List}
use Rattle.std.proofs.lemmas.Iterator.Search.{YieldsList-from_take_while}
use Rattle.ascii.proofs.Library.{front_taken}
use Rattle.steps.proofs.len_before.Goals as goal

pub returns : goal.returns
returns c =
    count_from_yields_List c.take_while.result _ c.count.ensures.ran
    (YieldsList-from_take_while _ (λ (b : ℕ). not (nat_eq b c.args.end)) (YieldsList-from_slice c.args.text.now (cc)) c.take_while.ensures.closure
    c.take_while.ensures.done (λ x b q k. search (rules, tests)))
    ∙ front_taken (λ (b : ℕ). not (nat_eq b c.args.end)) c.args.text.now
