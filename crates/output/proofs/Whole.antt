-- Pages and the whole text: no line is lost, cut or written twice, and every page that is not empty leaves fewer lines.
-- Assumes nothing.
use Prim.Native.Nat.{ℕ, suc, ◌+◌, ◌-◌, ◌≤◌, ◌<◌, min}
use mathlib.Core.Path.{◌≡◌, refl, ap, ◌∙◌}
use mathlib.Core.List.{List, [], ◌∷◌, ◌++◌, append_assoc}
use native.Mathlib.Omega.{arith}
use lib.Dec.{leb, ltb}
use lib.ListN.{length, length-append}
use borrow.Author.Tests.{leb-true, ltb-true, ltb-false}
use Rattle.ascii.proofs.Cases.{by_test, either}
use Rattle.output.specs.Page.{lines_text, page_text, page_rest}

-- a page and what is left after it are the whole
pub page_whole : (room : ℕ) (ts : List (List ℕ)) → page_text room ts ++ lines_text (page_rest room ts) ≡ lines_text ts
unfolding page_text page_rest lines_text
page_whole room [] = refl
page_whole room (t ∷ ts) =
    either (leb (length t) room)
    (λ b. rw b (append_assoc t (page_text (room - length t) ts) (lines_text (page_rest (room - length t) ts)) ∙ ap (λ (s : List ℕ). t ++ s) (page_whole (room - length t) ts)))
    (λ b. rw b)

pub rest_none : (room : ℕ) → page_rest room [] ≡ []
unfolding page_rest
rest_none room = refl

-- a page has room in its buffer
pub page_length : (room : ℕ) (ts : List (List ℕ)) → length (page_text room ts) ≤ room
unfolding page_text
page_length room [] = omega arith
page_length room (t ∷ ts) =
    by_test (λ (s : List ℕ). length s ≤ room) (leb (length t) room)
    (λ b. omega (arith, leb-true (length t) room b, length-append t (page_text (room - length t) ts), page_length (room - length t) ts)) (λ b. omega arith)

pub page_fewer : (room : ℕ) (ts : List (List ℕ)) → length (page_rest room ts) ≤ length ts
unfolding page_rest
page_fewer room [] = omega arith
page_fewer room (t ∷ ts) =
    by_test (λ (us : List (List ℕ)). length us ≤ suc (length ts)) (leb (length t) room)
    (λ b. omega (arith, page_fewer (room - length t) ts)) (λ b. omega arith)

pub page_less : (room : ℕ) (ts : List (List ℕ)) → 0 < length (page_text room ts) → length (page_rest room ts) < length ts
unfolding page_text page_rest
page_less room [] h = absurd (omega arith)
page_less room (t ∷ ts) h =
    either (leb (length t) room)
    (λ b. rw b (omega (arith, page_fewer (room - length t) ts)))
    (λ b. let z = rw b at h in absurd (omega (arith, z)))

-- so the lines that are left, and one more while a page is not empty, fall with each page
pub page_falls : (room : ℕ) (ts us : List (List ℕ)) (n k : ℕ) → 0 < n → us ≡ page_rest room ts → k ≡ length (page_text room ts)
    → length us + min k 1 < length ts + min n 1
page_falls room ts us n k h e f =
    either (ltb 0 k)
    (λ b. omega (arith, ltb-true 0 k b, ap length e, page_less room ts (omega (arith, ltb-true 0 k b, f))))
    (λ b. omega (arith, ltb-false 0 k b, ap length e, page_fewer room ts))
