-- `root_of` meets its contract: the place of the root in front.
use Rattle.std.proofs.Common.{◌≡◌, List, ℕ, Bor, length, take, ◌∙◌, ap, rules, tests}
use mathlib.Core.List.{map}
use lib.Dec.{eqb}
use Rattle.std.specs.Cmp.Lexicographic.{pointwise}
use Rattle.std.proofs.lemmas.Iterator.{YieldsList-from_slice}
use Rattle.std.proofs.lemmas.Iterator.Search.{position_from_yields_List}
use Rattle.ascii.specs.Text.{bytes}
use Rattle.ascii.proofs.Library.{same_swapped}
use Rattle.keyword.specs.Names.{once_roots, other_roots, roots, position}
use Rattle.keyword.proofs.Position.{position_found}
use Rattle.keyword.proofs.root_of.Goals as goal

pub returns : goal.returns
unfolding once_roots other_roots bytes
returns c =
    let name = c.args.name.now in
    let words = c.iter.result.rest.now in
    let test = λ (r : Bor (List ℕ)). pointwise eqb r.now (take (length r.now) name) in
    let e : map (λ (r : Bor (List ℕ)). r.now) words ≡ roots = ap (map (λ (r : Bor (List ℕ)). r.now)) c.iter.ensures.rest in
    position_from_yields_List test _ _ c.position.result c.position.ensures.ran (YieldsList-from_slice words (cc))
    (λ x b q k. search (rules, tests))
    ∙ position_found (take 5 name) test (λ r. r.now) words (rw c.iter.ensures.rest (simp same_swapped)) ∙ ap (position (take 5 name)) e
