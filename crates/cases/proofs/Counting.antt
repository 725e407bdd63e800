-- The cases of a file counted one by one.
-- Assumes nothing.
use Rattle.std.specs.Prelude.{Option, Some, None}
use Prim.Native.Nat.{ℕ, zero, suc, ◌+◌, ◌-◌, ◌≤◌, ◌<◌}
use mathlib.Core.Path.{◌≡◌, refl, sym, ap, ◌∙◌}
use mathlib.Core.Bool.{Bool, true, false}
use mathlib.Core.List.{List}
use native.Mathlib.Omega.{arith}
use lib.Dec.{leb}
use lib.ListN.{length, drop, length-drop}
use borrow.Author.Tests.{leb-true, le-leb, lt-leb}
use Rattle.ascii.proofs.Cases.{by_test, either}
use Rattle.cases.specs.declared.count.Tally.{Tally}
use Rattle.cases.specs.declared.count.Case.{Case}
use Rattle.ascii.specs.Text.{same}
use Rattle.cases.specs.Text.{replay_text}
use Rattle.cases.specs.Cases.{steps_at, text_at, case_end, IsCase, answer, counted, ended, none, tallied, tally_of}

-- no whole case
pub tallied_ends : (n : ℕ) (t : Tally) (b : List ℕ) → leb (case_end b) (length b) ≡ false → tallied n t b ≡ ended t (length b)
unfolding tallied
tallied_ends zero t b h = refl
tallied_ends (suc n) t b h = rw h

-- the bytes are enough cases
enough : (n m : ℕ) (t : Tally) (b : List ℕ) → length b ≤ n → length b ≤ m → tallied n t b ≡ tallied m t b
unfolding tallied
enough zero m t b h k = sym (tallied_ends m t b (lt-leb (case_end b) (length b) (omega arith)))
enough (suc n) zero t b h k = tallied_ends (suc n) t b (lt-leb (case_end b) (length b) (omega arith))
enough (suc n) (suc m) t b h k =
    either (leb (case_end b) (length b))
    (λ y.
    let z = leb-true (case_end b) (length b) y in
    rw y
    (enough n m (counted t (answer b (steps_at b) (text_at b) (case_end b))) (drop (case_end b) b) (omega (arith, length-drop (case_end b) b)) (omega (arith, length-drop (case_end b) b))))
    (λ y. rw y)

-- a whole case
pub tallied_next : (n : ℕ) (t : Tally) (b : List ℕ) → length b ≤ n → leb (case_end b) (length b) ≡ true
    → tallied n t b ≡ tallied (n - case_end b) (counted t (answer b (steps_at b) (text_at b) (case_end b))) (drop (case_end b) b)
unfolding tallied
tallied_next zero t b h y = absurd (omega (arith, leb-true (case_end b) (length b) y))
tallied_next (suc n) t b h y =
    let z = leb-true (case_end b) (length b) y in
    rw y
    (enough n (suc n - case_end b) (counted t (answer b (steps_at b) (text_at b) (case_end b))) (drop (case_end b) b)
    (omega (arith, length-drop (case_end b) b)) (omega (arith, length-drop (case_end b) b)))

-- what is compared of a case
module _ (x y z u v w : List ℕ) where
  same_parts : x ≡ u → y ≡ v → z ≡ w → same z (replay_text x y) ≡ same w (replay_text u v)
  same_parts e f g =
      ap (λ (n : List ℕ). same z (replay_text n y)) e ∙ ap (λ (n : List ℕ). same z (replay_text u n)) f ∙ ap (λ (n : List ℕ). same n (replay_text u v)) g

pub case_same : (b : List ℕ) (k : Case) → IsCase b k
    → same k.text.now (replay_text k.table.now k.steps.now) ≡ answer b (steps_at b) (text_at b) (case_end b)
case_same b k w = same_parts k.table.now k.steps.now k.text.now _ _ _ w.table w.steps w.text

-- one turn of the loop: the case at the front of the rest x, with the answer r, and what stands after it
pub tallied_turn : (b : List ℕ) (t u : Tally) (x : List ℕ) (r : Bool) → case_end b ≤ length b → x ≡ drop (case_end b) b
    → r ≡ answer b (steps_at b) (text_at b) (case_end b) → u ≡ counted t r → tallied (length x) u x ≡ tallied (length b) t b
tallied_turn b t u x r h d a e =
    rw (e, a, d, length-drop (case_end b) b)
    (sym (tallied_next (length b) t b (omega arith) (le-leb _ _ h)))

-- what a count comes to: no more cases differ than there are
pub counted_cases : (t : Tally) (s : Bool) → (counted t s).cases ≡ t.cases + 1
counted_cases t true = refl
counted_cases t false = refl

pub counted_differ : (t : Tally) (s : Bool) → (counted t s).differ ≤ t.differ + 1
counted_differ t true = omega arith
counted_differ t false = omega arith

-- the number of the first stands beside how many differ: none where none does
abbrev FirstTold : ℕ → Option ℕ → Type 0
FirstTold n None = n ≡ 0
FirstTold n (Some k) = 0 < n

counted_told : (t : Tally) (s : Bool) → FirstTold t.differ t.first → FirstTold (counted t s).differ (counted t s).first
counted_told t true h = h
counted_told t false h = omega arith

tallied_told : (n : ℕ) (t : Tally) (b : List ℕ) → FirstTold t.differ t.first → FirstTold (tallied n t b).differ (tallied n t b).first
unfolding tallied
tallied_told zero t b h = h
tallied_told (suc n) t b h =
    let r = answer b (steps_at b) (text_at b) (case_end b) in
    by_test (λ (u : Tally). FirstTold u.differ u.first) (leb (case_end b) (length b))
    (λ _. tallied_told n (counted t r) (drop (case_end b) b) (counted_told t r h)) (λ _. h)

pub first_told : (f : List ℕ) → FirstTold (tally_of f).differ (tally_of f).first
first_told f = tallied_told (length f) none f refl
