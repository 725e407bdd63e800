-- Texts that are put one after another, each at the place after the one before, and how long they are.
-- Assumes nothing.
use Rattle.std.specs.Prelude.{Option, Some, None, leb, unwrap_or}
use Prim.Native.Nat.{ℕ, ◌+◌, ◌-◌, ◌≤◌, ◌<◌}
use mathlib.Core.Path.{◌≡◌, refl, ap, subst, ◌∙◌}
use mathlib.Core.List.{List, ◌++◌}
use native.Mathlib.Omega.{arith}
use lib.ListN.{length, take, length-append, length-replicate}
use borrow.Author.Tests.{le-leb, lt-leb}
use Rattle.ascii.specs.Buffer.{put_in, written, written_to, place_after}
use Rattle.ascii.specs.Number.{right_aligned}
use Rattle.ascii.proofs.Cases.{either}
use Rattle.ascii.proofs.Lengths.{put_put, take_put}

-- what a writer ensures where there is room: the place after the text, and the buffer with it
abbrev pub Put : List ℕ → ℕ → List ℕ → ℕ → List ℕ → Type 0
Put o at t p o' = (p ≡ at + length t) × (o' ≡ put_in o at t)

-- and where there may be none
abbrev pub Shown : List ℕ → ℕ → List ℕ → Option ℕ → List ℕ → Type 0
Shown o at t w o' = (w ≡ written_to o at t) × (o' ≡ written o at t)

-- what a writer ensures that gives a place in both cases
abbrev pub Tried : List ℕ → ℕ → List ℕ → ℕ → List ℕ → Type 0
Tried o at t p o' = (p ≡ place_after o at t) × (o' ≡ written o at t)

-- a text and the one after it, which ends within the buffer
pub joined : (o : List ℕ) (at : ℕ) (s t : List ℕ) {p : ℕ} {o' : List ℕ} {q : ℕ} {o'' : List ℕ} → q ≤ length o
    → Put o at s p o' → Put o' p t q o'' → Put o at (s ++ t) q o''
joined o at s t {p} {o'} {q} {o''} h (e, f) (g, i) = (
  simp length-append (omega (arith, e, g)),
  i ∙ ap (λ (n : ℕ). put_in o' n t) e ∙ ap (λ (l : List ℕ). put_in l (at + length s) t) f ∙ put_put o at s t (omega (arith, e, g, h)),
)

module _ (o : List ℕ) (at : ℕ) {s t : List ℕ} (e : s ≡ t) where
  pub tried_as : {p : ℕ} {o' : List ℕ} → Tried o at s p o' → Tried o at t p o'
  tried_as {p} {o'} h = subst (λ (l : List ℕ). Tried o at l p o') e h

  pub shown : {w : Option ℕ} {o' : List ℕ} → Shown o at s w o' → Shown o at t w o'
  shown {w} {o'} h = subst (λ (l : List ℕ). Shown o at l w o') e h

module _ (o : List ℕ) (at : ℕ) (t : List ℕ) where
  pub room : {p : ℕ} {o' : List ℕ} → at + length t ≤ length o → Put o at t p o' → Shown o at t (Some p) o'
  unfolding written written_to
  room {p} {o'} h (e, f) = rw (le-leb (at + length t) (length o) h) (ap Some e, f)

  pub no_room : length o < at + length t → Shown o at t None o
  unfolding written written_to
  no_room h = rw (lt-leb (at + length t) (length o) h) (refl, refl)

module _ (o : List ℕ) (at : ℕ) (t : List ℕ) where
  pub fitted : {p : ℕ} {o' : List ℕ} → at + length t ≤ length o → Tried o at t p o' → Put o at t p o'
  unfolding place_after written
  fitted {p} {o'} h e = rw (le-leb (at + length t) (length o) h) at e

  pub tried : {p : ℕ} {o' : List ℕ} → at + length t ≤ length o → Put o at t p o' → Tried o at t p o'
  unfolding place_after written
  tried {p} {o'} h e = rw (le-leb (at + length t) (length o) h) e

  pub not_tried : length o < at + length t → Tried o at t at o
  unfolding place_after written
  not_tried h = rw (lt-leb (at + length t) (length o) h) (refl, refl)

-- the place of a text that was put where there is room, and else the place given
pub place_of : (o : List ℕ) (at : ℕ) (t : List ℕ) → unwrap_or (written_to o at t) at ≡ place_after o at t
unfolding place_after written_to
place_of o at t = either (leb (at + length t) (length o)) (λ e. rw e) (λ e. rw e)

-- from the front of an array on, what was written is the text
pub front : (o t : List ℕ) {p : ℕ} {o' : List ℕ} → p ≤ length o → Put o 0 t p o' → take p o' ≡ t
front o t {p} {o'} h (e, f) = ap (λ (n : ℕ). take n o') e ∙ ap (take (0 + length t)) f ∙ take_put o 0 t (omega (arith, e, h))

-- a text with the spaces in front of it
pub right_length : (width : ℕ) (t : List ℕ) → length (right_aligned width t) ≡ (width - length t) + length t
right_length width t = simp (length-append, length-replicate {A = ℕ} (width - length t) 32)
