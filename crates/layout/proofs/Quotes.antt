-- A name compared byte by byte, two quotes taken as one.
-- Assumes nothing.
use mathlib.Core.Path.{◌≡◌, refl, sym, ◌∙◌, ap}
use mathlib.Core.Bool.{true, false, ◌&&◌, and-true, and-false, cond, false≢true}
use mathlib.Core.List.{List, [], ◌∷◌}
use Prim.Native.Nat.{ℕ, suc, ◌+◌, ◌≤◌, ◌<◌}
use native.Mathlib.Numerals.{add-one, lt_of_le_of_ne}
use native.Mathlib.Omega.{arith}
use lib.Dec.{eqb, eqb-suc-zero}
use Rattle.std.specs.Prelude.{Option, Some, None, MatchOption, unwrap_or}
use denote.Ref.{Bor}
use lib.Pointwise.{pointwise}
use lib.ListN.{length, get_or, take, drop, drop_of_length-le}
use lib.Seq.{drop-cons}
use borrow.Author.Tests.{eqb-true, eqb-false}
use Rattle.ascii.proofs.Cases.{either}
use Rattle.layout.specs.Names.{undoubled, alike}
use Rattle.layout.specs.EitherCase.{doubled}

-- the byte in front is the next one
first_byte : (b : ℕ) (bs : List ℕ) → undoubled (b ∷ bs) ≡ b ∷ undoubled (drop (cond (eqb b 39 && eqb (get_or bs 0 0) 39) 2 1) (b ∷ bs))
unfolding undoubled
first_byte b [] = rw (and-false (eqb b 39))
first_byte b (c ∷ cs) = either (eqb b 39 && eqb c 39) (λ e. rw e) (λ e. rw e)

-- a text that a header writes with each quote as two is that text
pub undoubled_other : (b : ℕ) (t : List ℕ) → eqb b 39 ≡ false → undoubled (b ∷ t) ≡ b ∷ undoubled t
unfolding undoubled
undoubled_other b [] e = refl
undoubled_other b (c ∷ cs) e = rw e refl

pub undoubled_doubled : (s : List ℕ) → undoubled (doubled s) ≡ s
unfolding undoubled doubled
undoubled_doubled [] = refl
undoubled_doubled (b ∷ bs) =
    either (eqb b 39)
    (λ e. rw (e, undoubled_doubled bs, eqb-true b 39 e) refl)
    (λ e. rw e (undoubled_other b (doubled bs) e ∙ ap (λ (t : List ℕ). b ∷ t) (undoubled_doubled bs)))

-- after a quote: another one, which counts with it, or none
pub undoubled_past : (b : ℕ) (t : List ℕ) (r : Option (Bor (List ℕ))) (whole : Bor (List ℕ)) → whole.now ≡ t → b ≡ 39
    → MatchOption r (pointwise eqb (take 1 t) (39 ∷ []) ≡ false) (λ x. (pointwise eqb (take 1 t) (39 ∷ []) ≡ true) × (x.now ≡ drop 1 t) × (length x.now + 1 ≡ length t))
    → undoubled (b ∷ t) ≡ b ∷ undoubled (unwrap_or r whole).now
unfolding undoubled
undoubled_past b [] None whole e q m = rw e
undoubled_past b (c ∷ cs) None whole e q m =
    let other : eqb c 39 ≡ false = sym (and-true (eqb c 39)) ∙ m in
    rw (e, other, and-false (eqb b 39))
undoubled_past b [] (Some x) whole e q m = absurd (false≢true m.0)
undoubled_past b (c ∷ cs) (Some x) whole e q m =
    let quote : eqb c 39 ≡ true = sym (and-true (eqb c 39)) ∙ m.0 in
    rw (q, quote, m.1)

-- one byte of the name sought
module _ (x : ℕ) (xs s : List ℕ) (j : ℕ) where
  pub sought_over : length s ≤ j → pointwise alike (x ∷ xs) (drop j s) ≡ false
  sought_over h = rw (drop_of_length-le s {i = j} h)

  pub sought_other : j < length s → alike x (get_or s j 0) ≡ false → pointwise alike (x ∷ xs) (drop j s) ≡ false
  sought_other h n = rw (drop-cons s j 0 h, n)

  pub sought_next : j < length s → alike x (get_or s j 0) ≡ true → pointwise alike (x ∷ xs) (drop j s) ≡ pointwise alike xs (drop (j + 1) s)
  sought_next h e = rw (add-one j, drop-cons s j 0 h, e)

pub sought_end : (s : List ℕ) (j : ℕ) → j ≤ length s → pointwise alike [] (drop j s) ≡ eqb j (length s)
sought_end s j h =
    either (eqb j (length s))
    (λ e. rw (e, drop_of_length-le s {i = j} (omega (arith, eqb-true j (length s) e))))
    (λ e. rw (e, drop-cons s j 0 (lt_of_le_of_ne h (eqb-false j (length s) e))))

-- no byte of the name in the header is left
pub name_short : (r s : List ℕ) (j : ℕ) → length r ≡ 0 → j < length s → pointwise alike (undoubled r) (drop j s) ≡ false
unfolding undoubled
name_short [] s j e h = rw (drop-cons s j 0 h)
name_short (b ∷ bs) s j e h = absurd (omega arith)

-- none of the one sought
pub name_over : (r s : List ℕ) (j : ℕ) → length s ≤ j → pointwise alike (undoubled r) (drop j s) ≡ eqb (length r) 0
unfolding undoubled
name_over [] s j h = rw (drop_of_length-le s {i = j} h)
name_over (b ∷ []) s j h = rw (drop_of_length-le s {i = j} h)
name_over (b ∷ c ∷ cs) s j h =
    rw (drop_of_length-le s {i = j} h, eqb-suc-zero (suc (length cs)))
    (either (eqb b 39 && eqb c 39) (λ e. rw e) (λ e. rw e))

-- a byte that is not like the one in its place
pub name_other : (b : ℕ) (after s : List ℕ) (j : ℕ) → j < length s → alike b (get_or s j 0) ≡ false
    → pointwise alike (undoubled (b ∷ after)) (drop j s) ≡ false
name_other b after s j h e =
    ap (λ (l : List ℕ). pointwise alike l (drop j s)) (first_byte b after) ∙ sought_other b _ s j h e
