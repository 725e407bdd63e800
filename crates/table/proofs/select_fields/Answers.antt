-- `select_fields` meets its contract: a column is wanted where it is listed.
use Rattle.std.proofs.Common.{◌≡◌, ℕ, List, [], ◌∷◌, refl, ◌∙◌, rules}
use Rattle.std.specs.List.{list_any}
use Rattle.std.specs.Cmp.{nat_eq_equiv}
use lib.Dec.{eqb}
use Rattle.tform.specs.Width.{among}
use Rattle.walk.specs.Step.{listed}
use Rattle.table.proofs.select_fields.Goals as goal

-- the slice's test for an element
any_among : (x : ℕ) (ys : List ℕ) → list_any (λ y. eqb y x) ys ≡ among x ys
unfolding among
any_among x [] = refl
any_among x (y ∷ ys) = rw (nat_eq_equiv.symm y x, any_among x ys)

pub returns : goal.returns
returns c = c.open_on.ensures (listed c.args.cols.now) (λ i is h p. let q : is ≡ list_any (λ y. eqb y i) c.args.cols.now = search rules in q ∙ any_among i c.args.cols.now)
