-- The length of a number as text, and texts that are put one after the other into a buffer.
-- Assumes nothing.
use Prim.Native.Nat.{ℕ, zero, suc, ◌+◌, ◌-◌, ◌*◌, ◌/◌, ◌^◌, ◌≤◌, ◌<◌}
use mathlib.Core.Path.{◌≡◌, refl, ap, sym, ◌∙◌}
use mathlib.Core.List.{List, ◌++◌, append_assoc}
use native.Mathlib.Omega.{arith}
use native.Mathlib.Nat.{pow-suc}
use lib.ListN.{length, take, drop, length-append, length-drop}
use lib.Seq.{take_at, drop_at, drop-drop, length-take-le}
use lib.Dec.{ltb}
use borrow.Author.Tests.{ltb-false}
use borrow.Rule.Slice.PartMut.{put_mid}
use Rattle.ascii.proofs.Cases.{by_test}
use Rattle.ascii.specs.Number.{decimal_in, decimal_text}
use Rattle.ascii.specs.Buffer.{put_in}

-- a number has as many digits as it is given at most
in_length : (k n : ℕ) → length (decimal_in k n) ≤ k
unfolding decimal_in
in_length zero n = omega arith
in_length (suc k) n =
    by_test (λ (l : List ℕ). length l ≤ suc k) (ltb n 10)
    (λ _. omega arith)
    (λ _. simp length-append (omega (arith, in_length k (n / 10))))

pub decimal_length : (n : ℕ) → length (decimal_text n) ≤ 20
decimal_length n = in_length 20 n

-- and a number below 10 ^ k has at most k digits, where k is not 0
pub few_digits : (j k n : ℕ) → n < 10 ^ k → 0 < k → length (decimal_in j n) ≤ k
unfolding decimal_in
few_digits zero k n h p = omega arith
few_digits (suc j) zero n h p = absurd (omega arith)
few_digits (suc j) (suc zero) n h p =
    by_test (λ (l : List ℕ). length l ≤ 1) (ltb n 10)
    (λ t. omega arith)
    (λ t. absurd (omega (arith, ltb-false n 10 t)))
few_digits (suc j) (suc (suc k)) n h p =
    let e : 10 ^ suc (suc k) ≡ 10 ^ suc k * 10 = pow-suc 10 (suc k) in
    by_test (λ (l : List ℕ). length l ≤ suc (suc k)) (ltb n 10)
    (λ t. omega arith)
    (λ t. simp length-append (omega (arith, few_digits j (suc k) (n / 10) (omega (arith, e)) (omega arith))))

-- ---- what is put into a buffer

unfold_put : (o : List ℕ) (at : ℕ) (t : List ℕ) → put_in o at t ≡ take at o ++ (t ++ drop (at + length t) o)
unfolding put_in
unfold_put o at t = refl

module _ (o : List ℕ) (at : ℕ) (t : List ℕ) (h : at + length t ≤ length o) where
  -- what stands before the place
  front : length (take at o) ≡ at
  front = length-take-le at o (omega arith)

  head : length (take at o ++ t) ≡ at + length t
  head = simp length-append (omega (arith, front))

  parted : put_in o at t ≡ (take at o ++ t) ++ drop (at + length t) o
  unfolding put_in
  parted = sym (append_assoc (take at o) t (drop (at + length t) o))

  pub put_length : length (put_in o at t) ≡ length o
  unfolding put_in
  put_length = simp (length-append, length-drop) (omega (arith, front))

  pub take_put : take (at + length t) (put_in o at t) ≡ take at o ++ t
  take_put = ap (take (at + length t)) parted ∙ take_at (take at o ++ t) (drop (at + length t) o) (at + length t) head

  pub drop_put : drop (at + length t) (put_in o at t) ≡ drop (at + length t) o
  drop_put = ap (drop (at + length t)) parted ∙ drop_at (take at o ++ t) (drop (at + length t) o) (at + length t) head

-- a text after another one is the two together
pub put_put : (o : List ℕ) (at : ℕ) (s t : List ℕ) → at + length s + length t ≤ length o → put_in (put_in o at s) (at + length s) t ≡ put_in o at (s ++ t)
put_put o at s t h =
    let room : at + length s ≤ length o = omega arith in
    let n : ℕ = at + length s in
    let ends : drop (n + length t) (put_in o at s) ≡ drop (n + length t) o =
    sym (drop-drop (length t) n (put_in o at s)) ∙ ap (drop (length t)) (drop_put o at s room) ∙ drop-drop (length t) n o in
    let sum : n + length t ≡ at + length (s ++ t) = simp length-append (omega arith) in
    unfold_put (put_in o at s) n t
    ∙ ap (λ (l : List ℕ). l ++ (t ++ drop (n + length t) (put_in o at s))) (take_put o at s room)
    ∙ ap (λ (l : List ℕ). (take at o ++ s) ++ (t ++ l)) (ends ∙ ap (λ (k : ℕ). drop k o) sum)
    ∙ append_assoc (take at o) s (t ++ drop (at + length (s ++ t)) o)
    ∙ ap (λ (l : List ℕ). take at o ++ l) (sym (append_assoc s t (drop (at + length (s ++ t)) o)))
    ∙ sym (unfold_put o at (s ++ t))

-- a text in the place of as many bytes of the buffer
pub part_put : (o t : List ℕ) (at n : ℕ) → length t ≡ n → put_mid at n o t ≡ put_in o at t
unfolding put_in
part_put o t at n e = rw (sym e) (ap (λ (r : List ℕ). take at o ++ (t ++ r)) (drop-drop (length t) at o))

-- and one of n bytes, where the part is named by its ends
pub put_between : (o : List ℕ) (at n : ℕ) (t s : List ℕ) → n ≡ length t → s ≡ t → put_mid at (at + n - at) o s ≡ put_in o at t
put_between o at n t s l e = ap (put_mid at (at + n - at) o) e ∙ part_put o t at (at + n - at) (omega arith)
