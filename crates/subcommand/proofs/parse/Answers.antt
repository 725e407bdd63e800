-- `parse` meets its contract: `any` tells whether an argument is too long.
use Rattle.std.proofs.Common.{◌≡◌, refl, sym, ◌∙◌, rules, map, List, ℕ, Bor}
use borrow.Author.Tests.{tests}
use Rattle.std.proofs.lemmas.Iterator.{YieldsList-from_slice}
use Rattle.std.proofs.lemmas.Iterator.Search.{any_from_yields_List}
use Rattle.std.specs.List.{list_any}
use Rattle.subcommand.specs.Arguments.{long_argument, asked}
use Rattle.subcommand.proofs.Long.{any_lent}
use Rattle.subcommand.proofs.parse.Goals as goal
use Rattle.subcommand.proofs.parse.Goals.{After-any}

is_long : (c : After-any) → c.any.result ≡ list_any long_argument (map (λ (a : Bor (List ℕ)). a.now) c.args.args.now)
is_long c =
    any_from_yields_List (λ (a : Bor (List ℕ)). long_argument a.now) _ _ c.any.result c.any.ensures.ran
    (YieldsList-from_slice c.args.args.now c.iter.ensures.rest) (λ x b q k. search (rules, tests))
    ∙ any_lent long_argument c.args.args.now

pub returns-then-any : goal.returns-then-any
unfolding asked
returns-then-any c = let e = is_long (goal.at.returns-then-any c).After-any in rw (sym e ∙ c.if-any.true) refl

pub returns : goal.returns
unfolding asked
returns c =
    let e = is_long (goal.at.returns c).After-any in
    rw (sym e ∙ c.if-any.false, c.in_ok-name.ensures.cases.0) c.by_name.ensures
