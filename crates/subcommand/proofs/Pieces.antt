-- The line of a refusal, in two parts.
-- Assumes nothing.
use Rattle.std.proofs.Common.{ℕ, ◌≡◌, List, [], ◌∷◌, ◌++◌, sym}
use Rattle.std.proofs.lemmas.List.Folds.{concat-append}
use Rattle.std.specs.List.{concat}

-- the words after the number and the place
pub line_parts : (front : List (List ℕ)) (words end : List ℕ)
    → concat front ++ (words ++ (end ++ [])) ≡ concat (front ++ (words ∷ end ∷ []))
line_parts front words end = sym (concat-append front (words ∷ end ∷ []))
