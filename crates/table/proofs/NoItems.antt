-- Where no chosen column holds an item or a descriptor, no row has an entry: what the search for the next entry then leaves out.
-- Assumes nothing.
use Rattle.std.specs.Prelude.{Option, Some, None}
use Rattle.std.specs.Option.{MatchOption}
use Rattle.std.specs.List.{FoldsTo}
use Rattle.std.specs.Fn.{Called}
use Rattle.std.specs.Iterator.{YieldsThen}
use denote.Param.Members.{Mut}
use Prim.Native.Nat.{ℕ, zero, suc, ◌-◌, ◌≤◌, ◌<◌}
use mathlib.Core.Path.{◌≡◌, refl, sym, ◌∙◌}
use Rattle.std.proofs.lemmas.Bool.{or_parts}
use mathlib.Core.Bool.{Bool, true, false, and-false, cond, ◌&&◌, ◌||◌}
use mathlib.Core.List.{List, [], ◌∷◌}
use native.Mathlib.Omega.{arith}
use native.Mathlib.Nat.{sub-zero}
use lib.ListN.{length, length-append}
use lib.Dec.{ltb}
use borrow.Author.Tests.{ltb-true, ltb-false, lt-ltb}
use Rattle.ascii.proofs.Cases.{by_test, either}
use Rattle.layout.specs.declared.BinTable.{BinTable}
use Rattle.layout.specs.Layout.{data_size}
use Rattle.cell.specs.Field.{field}
use Rattle.cell.proofs.Empty.{field_none}
use Rattle.walk.specs.declared.Entry.{Entry}
use Rattle.walk.specs.Plain.{column_of, field_at, field_of, chosen, column_size, columns_entries, row_entries}
use Rattle.walk.proofs.Laws.{column_length}
use Rattle.table.specs.declared.pass.Chosen.{Chosen}
use Rattle.table.specs.Chosen.{NextChosen, all_chosen}
use Rattle.table.proofs.Columns.{Over, gave, ended}
use Rattle.table.specs.Scan.{next_chosen, items_in, any_items}
use Rattle.table.proofs.ToNext.{to_next}

-- ---- a column

size_none : (t : Bool) (n k : ℕ) → (n ≡ 0 → k ≡ 0) → (t && ltb 0 n) ≡ false → cond t k 0 ≡ 0
size_none true n k h e = h (omega (arith, ltb-false 0 n e))
size_none false n k h e = refl

-- ---- a row

module _ (l : BinTable) (a : List ℕ) (choice : ℕ) (heap : Bool) (r : ℕ) where
  column_none : (c : ℕ) → (chosen choice c && ltb 0 (items_in l c)) ≡ false → column_size l a choice heap r c ≡ 0
  unfolding field_of field
  column_none c e =
      size_none (chosen choice c) (items_in l c) _
      (field_none a (field_at l r c) heap l.theap (data_size l) (column_of l c).form (column_of l c).count) e

  columns_none : (k c : ℕ) → any_items l choice c k ≡ false → length (columns_entries l a choice heap r c k) ≡ 0
  unfolding columns_entries any_items
  columns_none zero c e = refl
  columns_none (suc k) c e =
      let q = or_parts (chosen choice c && ltb 0 (items_in l c)) (any_items l choice (suc c) k) e in
      rw (length-append, column_length) (omega (arith, column_none c q.0, columns_none k (suc c) q.1))

  pub row_none : any_items l choice 0 l.tfields ≡ false → length (row_entries l a choice heap r) ≡ 0
  unfolding row_entries
  row_none e = by_test (λ (es : List Entry). length es ≡ 0) (ltb r l.naxis2) (λ t. columns_none l.tfields 0 e) (λ t. refl)

-- ---- the columns from one on, as the loop looks at them

module _ (l : BinTable) (choice : ℕ) where
  abbrev pub any_from : ℕ → Bool
  any_from c = any_items l choice c (l.tfields - c)

  pub any_end : (c : ℕ) → l.tfields ≤ c → any_from c ≡ false
  unfolding any_items
  any_end c h = let e : l.tfields - c ≡ 0 = omega (arith, h) in rw e

  any_step : (c : ℕ) → c < l.tfields → any_from c ≡ ((chosen choice c && ltb 0 (items_in l c)) || any_from (suc c))
  unfolding any_items
  any_step c h = let e : l.tfields - c ≡ suc (l.tfields - suc c) = omega (arith, h) in rw e

  pub any_here : (c : ℕ) → c < l.tfields → chosen choice c ≡ true → 0 < items_in l c → any_from c ≡ true
  any_here c h t i = rw (any_step c h, t, lt-ltb 0 (items_in l c) i)

  -- past a column that holds nothing or is not chosen
  pub any_later : (c : ℕ) → (chosen choice c && ltb 0 (items_in l c)) ≡ false → any_from c ≡ any_from (suc c)
  any_later c e =
      either (ltb c l.tfields) (λ t. rw (any_step c (ltb-true c l.tfields t), e))
      (λ t. let h = ltb-false c l.tfields t in any_end c h ∙ sym (any_end (suc c) (omega (arith, h))))

  -- and the next that is chosen
  pub any_next : (c j : ℕ) → j ≡ next_chosen choice c → any_from c ≡ any_from j
  any_next c j is =
      rw is
      (to_next choice (λ (i : ℕ). any_from c ≡ any_from i) (λ i e q. q ∙ any_later i (rw e)) c refl)

  -- what `any` answers, where its closure f tells whether a column holds something
  module _ (few : l.tfields ≤ 64) {F : Type 0} (g : Mut F (ℕ × Unit {0}) Bool) (f : F)
      (tells : (c : ℕ) (b : Bool) (q : F) → Called g f (c, tt) b q → (q ≡ f) × (b ≡ ltb 0 (items_in l c))) where
    any_run : (r : Bool) (u : Chosen) (o : Option ℕ) (j : F) (xs : List ℕ) (s : Chosen) → Over choice l.tfields s
        → YieldsThen NextChosen s xs o u → FoldsTo (λ (p : F) c q. Called g p (c, tt) false q) f xs j
        → MatchOption o (r ≡ false) (λ c. (r ≡ true) × ((h : F) × Called g j (c, tt) true h)) → r ≡ any_from s.next
    any_run r u None j [] s over (t, e, st) fs m =
        m ∙ sym (any_next s.next _ refl ∙ any_end _ (ended choice l.tfields few s u over (rw e st)))
    any_run r u (Some c) j [] s over (t, e, st) fs (m, (h, call)) =
        let v = gave choice l.tfields few s u over c (rw e st) in
        let w = tells c true h (rw fs call) in
        m ∙ sym (any_next s.next c v.is ∙ any_here c v.column v.picked (ltb-true 0 (items_in l c) (sym w.1)))
    any_run r u o j (c ∷ xs) s over (t, (k, st, ys), last) (p, call, fs) m =
        let v = gave choice l.tfields few s k over c st in
        let w = tells c false p call in
        any_run r u o j xs k v.over (t, ys, last) (rw (← w.0) fs) m
        ∙ sym (any_next s.next c v.is ∙ any_later c (rw (← w.1) (and-false (chosen choice c))) ∙ rw v.later refl)

    pub any_told : (r : Bool) (s u : Chosen) → s ≡ all_chosen choice l.tfields
        → (xs : List ℕ) × (o : Option ℕ) × (j : F) × YieldsThen NextChosen s xs o u × FoldsTo (λ (p : F) c q. Called g p (c, tt) false q) f xs j
        × MatchOption o (r ≡ false) (λ c. (r ≡ true) × ((h : F) × Called g j (c, tt) true h))
        → r ≡ any_items l choice 0 l.tfields
    any_told r s u e (xs, o, j, ys, fs, m) =
        any_run r u o j xs s (rw e record { choice_is = refl; columns = refl }) ys fs m ∙ rw (e, sub-zero l.tfields) refl
