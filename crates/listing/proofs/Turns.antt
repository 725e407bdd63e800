-- A digit found: it goes from the number that is left to the front of the digits that are set down.
-- Assumes nothing.
use Prim.Native.Nat.{ℕ, zero, suc, ◌-◌, ◌/◌, ◌%◌, ◌≤◌, ◌<◌}
use mathlib.Core.Path.{◌≡◌, refl, ap, sym, ◌∙◌}
use mathlib.Core.List.{List, [], ◌∷◌, ◌++◌}
use native.Mathlib.Nat.{not-suc-le-zero, le_of_suc-le-suc}
use native.Mathlib.Numerals.{sub-one}
use lib.ListN.{length, take, drop, set}
use lib.Seq.{append_snoc, slice, length-take-le, take-set-lt}
use Rattle.listing.specs.Text.{hex_text, hex_digit}

-- after a store at j, the list from j on begins with what was stored
stored : (t : List ℕ) (j g : ℕ) → j < length t → drop j (set t j g) ≡ g ∷ drop (suc j) t
stored [] j g h = absurd (not-suc-le-zero h)
stored (x ∷ xs) zero g h = refl
stored (x ∷ xs) (suc j) g h = stored xs j g (le_of_suc-le-suc h)

pub hex_turn : (i k rest g : ℕ) (t : List ℕ) → 0 < i → i ≤ k → k ≤ length t → g ≡ hex_digit (rest % 16)
    → hex_text (i - 1) (rest / 16) ++ slice (i - 1) k (set t (i - 1) g) ≡ hex_text i rest ++ slice i k t
unfolding hex_text
hex_turn zero k rest g t some h room e = absurd (not-suc-le-zero some)
hex_turn (suc j) k rest g t some h room e =
    let todo = hex_text j (rest / 16) in
    let done = slice (suc j) k t in
    let within : j < length (take k t) = rw (length-take-le k t room) h in
    ap (λ (m : ℕ). hex_text m (rest / 16) ++ slice m k (set t m g)) (sub-one (suc j))
    ∙ ap (λ (l : List ℕ). todo ++ drop j l) (take-set-lt k t j g h)
    ∙ ap (λ (l : List ℕ). todo ++ l) (stored (take k t) j g within)
    ∙ ap (λ (x : ℕ). todo ++ (x ∷ done)) e
    ∙ sym (append_snoc todo (hex_digit (rest % 16)) done)
