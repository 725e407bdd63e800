-- The bytes of a list, a part of which is read or was written.
-- Assumes nothing.
use Rattle.std.proofs.Common.{ℕ, ◌≡◌, ◌+◌, ◌-◌, ◌<◌, ◌≤◌, List, length, get_or, take, drop}
use Rattle.std.proofs.Common.{subst, sym, ◌∙◌, ⊎_elim, arith, rules}
use Rattle.std.proofs.lemmas.List.{places, get_or-take, get_or-drop}
use Rattle.std.proofs.lemmas.Bool.{cases_lt}
use borrow.Rule.Slice.PartMut.{put_mid}

-- byte i of &xs[p..]
pub get_from : (xs : List ℕ) (p i x : ℕ) → (i + p < length xs) × (get_or xs (i + p) 0 ≡ x)
    → get_or (take (length xs - p) (drop p xs)) i 0 ≡ x
get_from xs p i x h =
    let inside : i < length xs - p = omega (arith, h.0) in
    let e : p + i ≡ i + p = omega arith in
    get_or-take (length xs - p) (drop p xs) i 0 inside ∙ get_or-drop p xs i 0 ∙ rw e h.1

-- the n bytes of xs from a on were made ys
module _ (xs ys : List ℕ) (a n : ℕ) (fits : a + n ≤ length xs) (len : length ys ≡ n) where
  abbrev pub written : List ℕ
  written = put_mid a n xs ys

  pub length_written : length written ≡ length xs
  length_written = search (rules, places)

  pub before_part : (i : ℕ) → i < a → get_or written i 0 ≡ get_or xs i 0
  before_part i h = search (rules, places)

  pub in_part : (k : ℕ) → k < n → get_or written (a + k) 0 ≡ get_or ys k 0
  in_part k h = search (rules, places)

  pub after_part : (i : ℕ) → a + n ≤ i → get_or written i 0 ≡ get_or xs i 0
  after_part i h = search (rules, places)

  -- what holds of byte i as it was, and as it is if it was written, holds of it now
  pub each_part : (P : ℕ → Type 0) (i : ℕ) → P (get_or xs i 0) → ((k : ℕ) → k < n → i ≡ a + k → P (get_or ys k 0))
      → P (get_or written i 0)
  each_part P i old new =
      ⊎_elim
      (λ l. subst P (sym (before_part i l)) old)
      (λ g. ⊎_elim
      (λ l. let k : i - a < n = omega arith in
      let e : i ≡ a + (i - a) = omega arith in
      subst (λ j. P (get_or written j 0)) (sym e) (subst P (sym (in_part (i - a) k)) (new (i - a) k e)))
      (λ l. subst P (sym (after_part i l)) old)
      (cases_lt i (a + n)))
      (cases_lt i a)
