-- Pieces of one length, one after the other.
-- Assumes nothing.
use Rattle.std.proofs.Common.{ℕ, zero, suc, ◌≡◌, ◌+◌, ◌*◌, ◌<◌, List, [], ◌++◌, length, take, drop, get_or}
use Rattle.std.proofs.Common.{refl, sym, ap, ap₂, ◌∙◌, arith, length-append, append_assoc}
use Rattle.std.specs.List.{range_with_len}
use Rattle.std.proofs.lemmas.List.{append-nil, drop-drop, take_at, drop_at, get_or-take, get_or-drop}
use mathlib.Core.List.{flat_map}

-- n pieces from piece s on
module _ (f : ℕ → List ℕ) where
  abbrev pub pieces : ℕ → ℕ → List ℕ
  pieces s n = flat_map f (range_with_len s n)

  -- one piece more
  pub next_piece : (s n : ℕ) → pieces s (n + 1) ≡ pieces s n ++ f (s + n)
  unfolding flat_map
  next_piece s zero =
      let e : s ≡ s + 0 = omega arith in
      ap (λ (i : ℕ). f i ++ []) e ∙ append-nil (f (s + 0))
  next_piece s (suc n) =
      let e : suc n + 1 ≡ suc (n + 1) = omega arith in
      let i : s + 1 + n ≡ s + suc n = omega arith in
      rw e (ap (λ (l : List ℕ). f s ++ l) (next_piece (s + 1) n ∙ ap (λ (j : ℕ). pieces (s + 1) n ++ f j) i)
      ∙ sym (append_assoc (f s) (pieces (s + 1) n) (f (s + suc n))))

  module _ (k : ℕ) where
    pub pieces_length : (s n : ℕ) → ((i : ℕ) → i < s + n → length (f i) ≡ k) → length (pieces s n) ≡ n * k
    unfolding flat_map
    pieces_length s zero h = omega arith
    pieces_length s (suc n) h =
        let rest = pieces_length (s + 1) n (λ i q. h i (omega arith)) in
        length-append (f s) (pieces (s + 1) n) ∙ omega (arith, h s (omega arith), rest)

    pub piece_at : (s n i : ℕ) → ((i : ℕ) → i < s + n → length (f i) ≡ k) → i < n
        → take k (drop (i * k) (pieces s n)) ≡ f (s + i)
    unfolding flat_map
    piece_at s zero i h q = absurd (omega arith)
    piece_at s (suc n) zero h q =
        let z : 0 * k ≡ 0 = omega arith in
        let first : s ≡ s + 0 = omega arith in
        rw z (take_at (f s) (pieces (s + 1) n) k (h s (omega arith)) ∙ ap f first)
    piece_at s (suc n) (suc i) h q =
        let e : suc i * k ≡ k + i * k = omega arith in
        let next : s + 1 + i ≡ s + suc i = omega arith in
        rw (e, ← drop-drop (i * k) k (f s ++ pieces (s + 1) n), drop_at (f s) (pieces (s + 1) n) k (h s (omega arith)))
        (piece_at (s + 1) n i (λ j p. h j (omega arith)) (omega arith) ∙ ap f next)

    -- byte r of piece i
    pub byte_at : (s n i r d : ℕ) → ((i : ℕ) → i < s + n → length (f i) ≡ k) → i < n → r < k
        → get_or (pieces s n) (i * k + r) d ≡ get_or (f (s + i)) r d
    byte_at s n i r d h q m =
        let rest : List ℕ = drop (i * k) (pieces s n) in
        sym (get_or-take k rest r d m ∙ get_or-drop (i * k) (pieces s n) r d)
        ∙ ap (λ (t : List ℕ). get_or t r d) (piece_at s n i h q)

-- the same pieces
pub same_pieces : (f g : ℕ → List ℕ) (s n : ℕ) → ((i : ℕ) → i < s + n → f i ≡ g i) → pieces f s n ≡ pieces g s n
unfolding flat_map
same_pieces f g s zero h = refl
same_pieces f g s (suc n) h =
    ap₂ (λ x y. x ++ y) (h s (omega arith)) (same_pieces f g (s + 1) n (λ i q. h i (omega arith)))
