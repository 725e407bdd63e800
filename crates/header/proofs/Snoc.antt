-- What one name more at the end of a list changes in the places of a name, and in the first repeated one.
-- Assumes nothing.
use Rattle.std.specs.Prelude.{Option, Some, None}
use mathlib.Core.Path.{◌≡◌, refl, ap, ◌∙◌}
use mathlib.Core.Bool.{Bool, true, false, ◌&&◌, cond, and-true}
use mathlib.Core.List.{List, [], ◌∷◌, ◌++◌, append-nil}
use Prim.Native.Nat.{ℕ, suc}
use native.Mathlib.Nat.{add-zero}
use lib.ListN.{length}
use lib.Seq.{append_snoc}
use Rattle.ascii.specs.Text.{same}
use Rattle.ascii.proofs.Cases.{either}
use Rattle.keyword.specs.Names.{once_names, later, further, position}
use Rattle.header.specs.Records.{second, found, repeated_after}
use Rattle.keyword.proofs.Position.{or_else, position_append}

-- a place m, if a test holds
abbrev pub only : Bool → ℕ → Option ℕ
only t m = cond t (Some m) None

alone : (t : Bool) (m : ℕ) → further m (cond t (Some 0) (later None)) ≡ only t m
alone true m = ap Some (add-zero m)
alone false m = refl

later_only : (f : Option ℕ) (t : Bool) (m : ℕ) → later (or_else f (only t m)) ≡ or_else (later f) (only t (suc m))
later_only (Some k) t m = refl
later_only None true m = refl
later_only None false m = refl

later_found : (f : Option ℕ) → found (later f) ≡ found f
later_found (Some k) = refl
later_found None = refl

module _ (n x : List ℕ) where
  pub position_snoc : (xs : List (List ℕ)) → position n (xs ++ (x ∷ [])) ≡ or_else (position n xs) (only (same n x) (length xs))
  unfolding position
  position_snoc xs = position_append n xs (x ∷ []) ∙ ap (or_else (position n xs)) (alone (same n x) (length xs))

  second_step : (ys : List (List ℕ)) (u : Bool)
      → second n (ys ++ (x ∷ [])) ≡ or_else (second n ys) (only (same n x && found (position n ys)) (length ys))
      → later (cond u (position n (ys ++ (x ∷ []))) (second n (ys ++ (x ∷ []))))
      ≡ or_else (later (cond u (position n ys) (second n ys))) (only (same n x && found (cond u (Some 0) (later (position n ys)))) (suc (length ys)))
  second_step ys true ih = ap later (position_snoc ys) ∙ later_only (position n ys) (same n x) (length ys) ∙ rw (and-true (same n x))
  second_step ys false ih =
      ap later ih ∙ later_only (second n ys) (same n x && found (position n ys)) (length ys) ∙ rw (later_found (position n ys))

  pub second_snoc : (xs : List (List ℕ)) → second n (xs ++ (x ∷ [])) ≡ or_else (second n xs) (only (same n x && found (position n xs)) (length xs))
  unfolding second position
  second_snoc [] = either (same n x) (λ e. rw e) (λ e. rw e)
  second_snoc (y ∷ ys) = second_step ys (same n y) (second_snoc ys)

pub repeated_snoc : (x : List ℕ) (seen xs : List (List ℕ))
    → repeated_after seen (xs ++ (x ∷ []))
    ≡ or_else (repeated_after seen xs) (only (found (position x once_names) && found (position x (seen ++ xs))) (length (seen ++ xs)))
unfolding repeated_after
repeated_snoc x seen [] = rw (append-nil seen)
repeated_snoc x seen (y ∷ ys) =
    let t = found (position y once_names) && found (position y seen) in
    either t (λ e. rw e) (λ e. rw e (rw (append_snoc seen y ys) at (repeated_snoc x (seen ++ (y ∷ [])) ys)))
