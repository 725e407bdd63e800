-- Six pieces, read one by one, with one more after them.
-- Assumes nothing.
use Rattle.std.proofs.Common.{◌≡◌, ℕ, List, [], ◌∷◌, ◌++◌, map, length, get_or, append_assoc, arith}
use Rattle.std.proofs.lemmas.List.{append-nil}
use Rattle.std.specs.List.{concat}

pub one_more : {A : Type 0} (f : A → List ℕ) (xs : List A) (d : A) (t : List ℕ) → length xs ≡ 6
    → concat
    (f (get_or xs 0 d) ∷ f (get_or xs 1 d) ∷ f (get_or xs 2 d)
    ∷ f (get_or xs 3 d) ∷ f (get_or xs 4 d) ∷ f (get_or xs 5 d) ∷ t ∷ [])
    ≡ concat (map f xs) ++ t
one_more f [] d t h = absurd (omega arith)
one_more f (u ∷ []) d t h = absurd (omega arith)
one_more f (u ∷ v ∷ []) d t h = absurd (omega arith)
one_more f (u ∷ v ∷ w ∷ []) d t h = absurd (omega arith)
one_more f (u ∷ v ∷ w ∷ x ∷ []) d t h = absurd (omega arith)
one_more f (u ∷ v ∷ w ∷ x ∷ y ∷ []) d t h = absurd (omega arith)
one_more f (u ∷ v ∷ w ∷ x ∷ y ∷ z ∷ []) d t h = simp (append_assoc, append-nil)
one_more f (u ∷ v ∷ w ∷ x ∷ y ∷ z ∷ o ∷ os) d t h = absurd (omega arith)
