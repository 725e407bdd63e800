-- A text that is written piece by piece to the front of a buffer.
-- Assumes nothing.
use Rattle.std.proofs.Common.{ℕ, suc, ◌≡◌, ◌+◌, ◌-◌, ◌<◌, ◌≤◌, List, [], ◌∷◌, ◌++◌, length, take, drop, set}
use Rattle.std.proofs.Common.{refl, ap, ◌∙◌, arith, length-drop}
use Rattle.std.proofs.lemmas.List.{append-nil, set_split, drop_all, drop-drop}
use borrow.Rule.Slice.PartMut.{put_mid}
use Rattle.ascii.specs.Buffer.{put_in, written}
use Rattle.ascii.proofs.Chain.{fitted}
use Rattle.ascii.proofs.Lengths.{put_put, put_length, drop_put}
use Rattle.ascii.proofs.Parts.{part_from}

-- one byte
set_put : (o : List ℕ) (at x : ℕ) → at < length o → set o at x ≡ put_in o at (x ∷ [])
unfolding put_in
set_put o at x h =
    let e : suc at ≡ at + 1 = omega arith in
    set_split o at x h ∙ ap (λ (n : ℕ). take at o ++ (x ∷ drop n o)) e

-- a text where there is room
pub written_put : (o : List ℕ) (at : ℕ) (t : List ℕ) → at + length t ≤ length o → written o at t ≡ put_in o at t
written_put o at t h = (fitted o at t h (refl, refl)).1

-- a text that fills the buffer
pub put_whole : (o t : List ℕ) → length t ≡ length o → put_in o 0 t ≡ t
unfolding put_in
put_whole o t e = ap (λ (l : List ℕ). t ++ l) (drop_all (0 + length t) o (omega arith)) ∙ append-nil t

-- what is behind a text at the front
pub rest_put : (o t : List ℕ) (n : ℕ) → length t ≡ n → n ≤ length o → drop n (put_in o 0 t) ≡ drop n o
rest_put o t n e h =
    let k : n ≡ 0 + length t = omega arith in
    rw k (drop_put o 0 t (omega arith))

-- a text at the front of what begins at a place is a text at that place
part_front : (o : List ℕ) (at : ℕ) (t y : List ℕ) → at + length t ≤ length o
    → y ≡ written (take (length o - at) (drop at o)) 0 t → put_mid at (length o - at) o y ≡ put_in o at t
unfolding put_in
part_front o at t y h e =
    let part : y ≡ put_in (drop at o) 0 t =
    e ∙ ap (λ (l : List ℕ). written l 0 t) (part_from o at)
    ∙ written_put (drop at o) 0 t (omega (arith, length-drop at o)) in
    let none : drop (length o - at) (drop at o) ≡ [] =
    drop_all (length o - at) (drop at o) (omega (arith, length-drop at o)) in
    let rest : drop (0 + length t) (drop at o) ≡ drop (at + length t) o =
    drop-drop (0 + length t) at o ∙ ap (λ (n : ℕ). drop n o) (omega arith) in
    rw (part, none, append-nil (put_in (drop at o) 0 t)) (ap (λ (l : List ℕ). take at o ++ (t ++ l)) rest)

-- where a buffer has the text s at its front: what is written behind it
module _ (o s : List ℕ) (n : ℕ) (l : List ℕ) (is : l ≡ put_in o 0 s) (long : length s ≡ n) where
  pub next_put : (t : List ℕ) → n + length t ≤ length o → put_in l n t ≡ put_in o 0 (s ++ t)
  next_put t h =
      let e : n ≡ 0 + length s = omega arith in
      rw (is, e) (put_put o 0 s t (omega arith))

  same_room : n ≤ length o → length l ≡ length o
  same_room h = ap length is ∙ put_length o 0 s (omega arith)

  pub next_byte : (x : ℕ) → n < length o → set l n x ≡ put_in o 0 (s ++ (x ∷ []))
  next_byte x h = set_put l n x (omega (arith, same_room (omega arith))) ∙ next_put (x ∷ []) (omega arith)

  pub next_part : (t y : List ℕ) → n + length t ≤ length o → y ≡ written (take (length l - n) (drop n l)) 0 t
      → put_mid n (length l - n) l y ≡ put_in o 0 (s ++ t)
  next_part t y h e =
      part_front l n t y (omega (arith, same_room (omega arith))) e ∙ next_put t h
