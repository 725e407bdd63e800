-- Isolation (FORMAT.md, section 15) over the definitions: for every list of steps from a newly opened cursor, two data areas that agree in the chosen fields and in
-- the arrays of their sound descriptors give the same answers, each what the plain walk gives, with right counts.
-- Assumes nothing.
use Prim.Native.Nat.{ℕ}
use mathlib.Core.Path.{◌≡◌, refl, sym, ap, subst, ◌∙◌}
use mathlib.Core.Bool.{Bool, true, false, cond}
use mathlib.Core.List.{List, map}
use lib.ListN.{length}
use borrow.Author.Tests.{le-leb}
use Rattle.refusal.specs.Refusal as H
use Rattle.layout.specs.declared.BinTable.{BinTable}
use Rattle.layout.specs.Layout.{data_size}
use Rattle.bintable.specs.Entry.{accepted, entry}
use Rattle.bintable.proofs.Kept.{entry_layout, entry_ok, entry_long}
use Rattle.walk.specs.declared.TableData.{TableData}
use Rattle.walk.specs.declared.Entry.{Entry}
use Rattle.walk.specs.Plain.{row_entries}
use Rattle.walk.specs.Walk.{Step, start, walk}
use Rattle.walk.specs.Step.{fits, choice_ok, cursor_at, Selection, choice_of, Opening, opened, not_opened, open_with, with_cursor, run, plain_walk}
use Rattle.walk.specs.Agree.{Agree, Counted, SameSteps}
use Rattle.walk.proofs.Same.{rows_same}
use Rattle.walk.proofs.Follows.{start_ok, follows, walk_counts}

-- an area that the entry accepts fits its layout
pub entry_fits : (h a : List ℕ) (l : BinTable) → entry h a ≡ accepted l → fits l a ≡ true
unfolding fits
entry_fits h a l e = rw (le-leb (data_size l) (length a) (entry_long h a l e), entry_ok h a l e)

-- so opening it never answers 10: a cursor or an 11, by the layout alone
pub entry_opens : (h a : List ℕ) (l : BinTable) (sel : Selection) (heap : Bool) → entry h a ≡ accepted l
    → open_with l a sel heap ≡ cond (choice_ok l (choice_of l sel)) (opened (cursor_at (choice_of l sel) heap start)) (not_opened 11)
unfolding open_with
entry_opens h a l sel heap e = rw (entry_fits h a l e)

-- what a cursor that was opened is, and that its choice belongs
pub by_choice : (t : Bool) (o c : TableData) → cond t (opened o) (not_opened 11) ≡ opened c → (t ≡ true) × (o ≡ c)
by_choice true o c e = (refl, ap (λ (x : Opening). x.cursor) e)
by_choice false o c e = let q : H.refused 11 0 ≡ H.accepted = ap (λ (x : Opening). x.outcome) e in (cc, cc)

-- the steps from a newly opened cursor are what the plain walk gives
pub walked : (l : BinTable) (a : List ℕ) (sel : Selection) (heap : Bool) (xs : List Step) → fits l a ≡ true → choice_ok l (choice_of l sel) ≡ true
    → run l a (cursor_at (choice_of l sel) heap start) xs ≡ map (with_cursor (choice_of l sel) heap) (plain_walk l a (choice_of l sel) heap xs)
walked l a sel heap xs ha hc =
    follows l a (choice_of l sel) heap ha hc start xs (start_ok (row_entries l a (choice_of l sel) heap) l.naxis2)

counted : (l : BinTable) (a : List ℕ) (sel : Selection) (heap : Bool) (xs : List Step) → fits l a ≡ true → choice_ok l (choice_of l sel) ≡ true
    → Counted 0 xs (run l a (cursor_at (choice_of l sel) heap start) xs)
counted l a sel heap xs ha hc =
    let rows = row_entries l a (choice_of l sel) heap in
    subst (Counted 0 xs) (sym (walked l a sel heap xs ha hc))
    (walk_counts l rows l.naxis2 (choice_of l sel) heap 0 start xs (start_ok rows l.naxis2) refl)

same_steps : (l : BinTable) (a b : List ℕ) (sel : Selection) (heap : Bool) (xs : List Step)
    → fits l a ≡ true → fits l b ≡ true → choice_ok l (choice_of l sel) ≡ true → Agree l a b (choice_of l sel) heap
    → SameSteps l a b sel heap (cursor_at (choice_of l sel) heap start) xs
same_steps l a b sel heap xs ha hb hc agree =
    let choice = choice_of l sel in
    let wa = walked l a sel heap xs ha hc in
    let wb = walked l b sel heap xs hb hc in
    let one = ap (λ (rows : ℕ → List Entry). walk l rows l.naxis2 start xs) (rows_same l a b choice heap agree) in
    record {
      walked_a = wa;
      walked_b = wb;
      same = wa ∙ ap (map (with_cursor choice heap)) one ∙ sym wb;
      counted_a = counted l a sel heap xs ha hc;
      counted_b = counted l b sel heap xs hb hc;
    }

-- both areas are accepted for one header: their layouts and openings are the same, and every cursor that is opened has the claim of `SameSteps`
pub isolation : (h a b : List ℕ) (sel : Selection) (heap : Bool) (xs : List Step) (la lb : BinTable)
    → entry h a ≡ accepted la → entry h b ≡ accepted lb → Agree la a b (choice_of la sel) heap
    → (la ≡ lb) × ((open_with la a sel heap ≡ open_with lb b sel heap)
    × ((c : TableData) → open_with la a sel heap ≡ opened c → SameSteps la a b sel heap c xs))
isolation h a b sel heap xs la lb ea eb agree =
    let same : la ≡ lb = entry_layout h a la ea ∙ sym (entry_layout h b lb eb) in
    let eb' : entry h b ≡ accepted la = eb ∙ ap accepted (sym same) in
    let oa = entry_opens h a la sel heap ea in
    let ob = entry_opens h b la sel heap eb' in (
      same,
      (
        oa ∙ sym ob ∙ ap (λ (l : BinTable). open_with l b sel heap) same,
        λ c e.
            let q = by_choice (choice_ok la (choice_of la sel)) (cursor_at (choice_of la sel) heap start) c (sym oa ∙ e) in
            subst (λ (o : TableData). SameSteps la a b sel heap o xs) q.1
            (same_steps la a b sel heap xs (entry_fits h a la ea) (entry_fits h b la eb') q.0 agree),
      ),
    )
