-- `single_slot` meets its contract: the name's place in the list.
use Rattle.std.proofs.Common.{◌≡◌, List, ℕ, Bor, ◌∙◌, ap, rules, tests}
use mathlib.Core.List.{map}
use lib.Dec.{eqb}
use Rattle.std.specs.Cmp.Lexicographic.{pointwise}
use Rattle.std.proofs.lemmas.Iterator.{YieldsList-from_slice}
use Rattle.std.proofs.lemmas.Iterator.Search.{position_from_yields_List}
use Rattle.ascii.specs.Text.{bytes}
use Rattle.ascii.proofs.Library.{same_swapped}
use Rattle.keyword.specs.Names.{single, position}
use Rattle.keyword.proofs.Position.{position_found}
use Rattle.keyword.proofs.single_slot.Goals as goal

pub returns : goal.returns
unfolding single bytes
returns c =
    let name = c.args.name.now in
    let names = c.iter.result.rest.now in
    let test = λ (r : Bor (List ℕ)). pointwise eqb r.now name in
    let e : map (λ (r : Bor (List ℕ)). r.now) names ≡ single = ap (map (λ (r : Bor (List ℕ)). r.now)) c.iter.ensures.rest in
    position_from_yields_List test _ _ c.position.result c.position.ensures.ran (YieldsList-from_slice names (cc))
    (λ x b q k. search (rules, tests))
    ∙ position_found name test (λ r. r.now) names (simp same_swapped) ∙ ap (position name) e
