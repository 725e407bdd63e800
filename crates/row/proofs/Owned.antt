-- The list of an owner: 513 times one value u, of which the first n, 512 at most, are lent to a call that leaves zs in their place. What the owner reads at place k, 512 at
-- most, of the whole is what stands at place k of zs, or u where zs has none.
--     all_same, seen               the same for any lengths
--     made, front, back, lent, left  the whole, what is lent, the rest, and that the first two parts of the whole are these
--     long, whole, inside          the length of what is lent and of the whole afterwards, and that the place is inside
--     looked                       what is read there
--     own_step, own_cell           what a row read of the list that is lent came to, and what is read of the whole afterwards
-- Assumes nothing.
use Rattle.std.specs.Prelude.{Option}
use mathlib.Core.Path.{◌≡◌, refl, ap, subst, ◌∙◌}
use Prim.Native.Nat.{ℕ, zero, suc, ◌-◌, ◌≤◌, ◌<◌, min}
use native.Mathlib.Nat.{zero-min, suc-min-suc, min-le_right}
use native.Mathlib.Omega.{arith}
use mathlib.Core.List.{List, [], ◌∷◌, ◌++◌}
use lib.ListN.{length, get_or, take, drop, replicate, length-append, length-replicate}
use Rattle.std.proofs.lemmas.List.{take-replicate, drop-replicate, get_or_default}
use Rattle.layout.specs.declared.BinTable.{BinTable}
use Rattle.cell.specs.declared.Cell.{Cell}
use Rattle.walk.specs.declared.TableData.{TableData}
use Rattle.walk.specs.declared.Stepped.{Stepped}
use Rattle.walk.specs.declared.How.{How}
use Rattle.walk.specs.Walk.{read_row}
use Rattle.walk.specs.Step.{StepResult, cursor_step}
use Rattle.row.specs.Plan.{result_of}
use Rattle.row.specs.Owned.{own_read}

module _ {X : Type 0} (u : X) where
  pub all_same : (n i : ℕ) → get_or (replicate n u) i u ≡ u
  all_same zero i = refl
  all_same (suc n) zero = refl
  all_same (suc n) (suc i) = all_same n i

  pub seen : (zs : List X) (j n k : ℕ) → length zs ≤ j → get_or (zs ++ replicate n u) (min k j) u ≡ get_or zs k u
  seen [] j n k h = all_same n (min k j)
  seen (z ∷ zs) zero n k h = absurd (omega (arith, h))
  seen (z ∷ zs) (suc j) n zero h = ap (λ (i : ℕ). get_or (z ∷ zs ++ replicate n u) i u) (zero-min (suc j))
  seen (z ∷ zs) (suc j) n (suc k) h = ap (λ (i : ℕ). get_or (z ∷ zs ++ replicate n u) i u) (suc-min-suc k j) ∙ seen zs j n k (omega (arith, h))

  abbrev pub made : List X
  made = replicate 513 u

  module _ (n : ℕ) where
    abbrev pub front : List X
    front = replicate (min n 512) u

    abbrev pub back : List X
    back = replicate (513 - min n 512) u

    pub lent : take (min n 512) made ≡ front
    lent = take-replicate (min n 512) 513 u (omega (arith, min-le_right n 512))

    pub left : drop (min n 512) made ≡ back
    left = drop-replicate (min n 512) 513 u

    pub long : length front ≡ min n 512
    long = length-replicate (min n 512) u

    pub whole : (zs : List X) → length zs ≡ length front → length (zs ++ back) ≡ 513
    whole zs l = omega (arith, length-append zs back, l, long, length-replicate (513 - min n 512) u, min-le_right n 512)

    pub inside : (zs : List X) (k : ℕ) → length zs ≡ length front → min k 512 < length (zs ++ back)
    inside zs k l = omega (arith, whole zs l, min-le_right k 512)

    pub looked : (zs : List X) (k : ℕ) → length zs ≡ length front → get_or (zs ++ back) (min k 512) u ≡ get_or zs k u
    looked zs k l = seen zs 512 (513 - min n 512) k (omega (arith, l, long, min-le_right n 512))

module _ (l : BinTable) (a : List ℕ) (c : TableData) (how : How) (u : Cell) (n m : ℕ) (at : m ≡ min n 512) (s : Stepped (Option ℕ)) (zs : List Cell)
    (e : result_of s zs ≡ cursor_step l a c (read_row how (take m (made u)))) where
  read : result_of s zs ≡ own_read l a c how u n
  read = rw (at, lent u n) at e

  list_is : zs ≡ (own_read l a c how u n).list
  list_is = ap (λ (r : StepResult). r.list) read

  pub own_step : result_of s (own_read l a c how u n).list ≡ own_read l a c how u n
  own_step = subst (λ (ys : List Cell). result_of s ys ≡ own_read l a c how u n) list_is read

  -- whatever stands for a place outside
  pub own_cell : (d : Cell) (k i : ℕ) → i ≡ min k 512 → length zs ≡ length (take m (made u))
      → get_or (zs ++ drop m (made u)) i d ≡ get_or (own_read l a c how u n).list k u
  own_cell d k i w q =
      let f : length zs ≡ length (front u n) = rw (at, lent u n) at q in
      rw (at, left u n, w)
      (get_or_default (zs ++ back u n) (min k 512) d u (inside u n zs k f) ∙ looked u n zs k f ∙ ap (λ (ys : List Cell). get_or ys k u) list_is)
