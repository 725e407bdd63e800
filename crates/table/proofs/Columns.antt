-- What a loop over the chosen columns learns of a call of the iterator's `next`.
-- Assumes nothing.
use Rattle.std.specs.Prelude.{Some, None}
use Rattle.std.specs.Iterator.{Yields, CallableAtEachTurn}
use Prim.Native.Nat.{ℕ, suc, ◌≤◌, ◌<◌}
use mathlib.Core.Path.{◌≡◌, refl, ap, ◌∙◌}
use mathlib.Core.Bool.{Bool, true}
use mathlib.Core.List.{List, [], ◌∷◌}
use native.Mathlib.Omega.{arith}
use Rattle.layout.specs.declared.BinTable.{BinTable}
use Rattle.walk.specs.Plain.{chosen}
use Rattle.walk.proofs.Laws.{from, from_end}
use Rattle.table.specs.declared.pass.Chosen.{Chosen}
use Rattle.table.specs.Scan.{next_chosen}
use Rattle.table.specs.Chosen.{NextChosen}
use Rattle.table.proofs.ToNext.{next_chosen_lem, next_from_lem}

-- the iterator goes over the chosen ones of n columns
pub record Over (choice n : ℕ) (s : Chosen) : Type 0 where
  pub choice_is : s.choice ≡ choice
  pub columns : s.tfields ≡ n

-- it gave column c, and then is t
pub record Gave (choice n next c : ℕ) (t : Chosen) : Type 0 where
  pub column : c < n
  pub picked : chosen choice c ≡ true
  pub is : c ≡ next_chosen choice next
  pub over : Over choice n t
  pub later : t.next ≡ suc c

module _ (choice n : ℕ) (few : n ≤ 64) (s t : Chosen) (o : Over choice n s) where
  pub gave : (c : ℕ) → NextChosen s (Some c) t → Gave choice n s.next c t
  gave c (e, h, q) =
      let is : c ≡ next_chosen choice s.next = rw (← o.choice_is) e in
      let column : c < n = omega (arith, h, o.columns) in
      record {
        column = column;
        picked = next_chosen_lem choice s.next c is n few column;
        is = is;
        over = record { choice_is = rw q o.choice_is; columns = rw q o.columns };
        later = rw q;
      }

  -- or none is left
  pub ended : NextChosen s None t → n ≤ next_chosen choice s.next
  ended (h, q) = rw (← o.columns, ← o.choice_is) h

  pub ended_from : NextChosen s None t → (l : BinTable) → n ≡ l.tfields → (a : List ℕ) (heap : Bool) (r : ℕ) → from l a choice heap r s.next ≡ []
  ended_from e l m a heap r =
      next_from_lem choice s.next _ refl l a heap r ∙ from_end l a choice heap r _ (omega (arith, m, ended e))

-- what `any` asks of its closure: each column that may come is one of n
in_columns : (s : Chosen) (xs : List ℕ) (t u : Chosen) (c : ℕ) → Yields NextChosen s xs t → NextChosen t (Some c) u → c < s.tfields
in_columns s [] t u c e (_, h, _) = rw e h
in_columns s (x ∷ xs) t u c (k, (_, _, q), ys) st = rw (ap (λ (v : Chosen). v.tfields) q) at (in_columns k xs t u c ys st)

pub callable : {F : Type 0} {R : F → ℕ → F → Type 0} {Q : F → ℕ → Type 0} (s : Chosen) (f : F) → s.tfields ≤ 64
    → ((p : F) (c : ℕ) → c < 64 → Q p c) → CallableAtEachTurn NextChosen R Q s f
callable s f few can =
    record { at = λ xs t q c u ys fs st. can q c (omega (arith, few, in_columns s xs t u c ys st)) }
