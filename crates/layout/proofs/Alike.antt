-- Bytes and names that are alike.
-- Assumes nothing.
use Prim.Native.Nat.{ℕ, zero, suc, ◌+◌, ◌≤◌, ◌<◌}
use mathlib.Core.Path.{◌≡◌, refl, sym, ◌∙◌}
use mathlib.Core.Bool.{true, false, ◌&&◌, ◌||◌, false≢true, and-false}
use mathlib.Core.List.{List, [], ◌∷◌}
use native.Mathlib.Omega.{arith}
use lib.Dec.{eqb}
use lib.ListN.{length, get_or, take, drop}
use lib.Pointwise.{pointwise}
use Rattle.std.specs.Char.{to_ascii_lowercase, eq_ignore_ascii_case}
use Rattle.std.specs.Cmp.{IsEquivalence, nat_eq_equiv}
use Rattle.std.specs.Cmp.Lexicographic.{lists_equiv}
use Rattle.ascii.specs.Text.{same}
use Rattle.ascii.proofs.Cases.{either, both}
use Rattle.ascii.proofs.Same.{same_true}
use Rattle.layout.specs.Names.{lowercase, alike, undoubled}
use Rattle.layout.specs.EitherCase.{letter}

-- to be alike is an equivalence, of bytes and of names
pub alike_equivalence : IsEquivalence alike
alike_equivalence = record {
  refl = λ b. nat_eq_equiv.refl (lowercase b);
  symm = λ a b. nat_eq_equiv.symm (lowercase a) (lowercase b);
  congr = λ a b c. nat_eq_equiv.congr (lowercase a) (lowercase b) (lowercase c);
}

pub names_equivalence : IsEquivalence (pointwise alike)
names_equivalence = lists_equiv alike_equivalence

-- it is what Rust's `eq_ignore_ascii_case` says of two bytes
lowercase_ascii : (b : ℕ) → lowercase b ≡ to_ascii_lowercase b
lowercase_ascii b = grind arith

pub alike_ascii : (a b : ℕ) → alike a b ≡ eq_ignore_ascii_case a b
alike_ascii a b = rw (lowercase_ascii a, lowercase_ascii b) refl

-- A and a, Z and z; the bytes beside the letters, and two letters of Latin-1
pub beside_letters :
    (alike 65 97 ≡ true) × (alike 90 122 ≡ true) × (alike 64 96 ≡ false) × (alike 91 123 ≡ false) × (alike 196 228 ≡ false)
beside_letters = (refl, refl, refl, refl, refl)

-- a byte that is no letter is like itself alone
pub other_alone : (a b : ℕ) → letter b ≡ false → alike a b ≡ eqb a b
other_alone a b e = grind arith

-- a capital letter is like itself and the one 32 further alone
pub capital_pair : (a b : ℕ) → 65 ≤ a → a ≤ 90 → alike a b ≡ (eqb b a || eqb b (a + 32))
capital_pair a b l u = grind arith

-- and so is a small one and the one 32 before
pub small_pair : (a b : ℕ) → 97 ≤ a → a ≤ 122 → alike a b ≡ (eqb b a || eqb (b + 32) a)
small_pair a b l u = grind arith

-- names are alike just where they are as long and each byte is like the one at its place
pub each_alike : (p s : List ℕ) → pointwise alike p s ≡ true → (i : ℕ) → alike (get_or p i 0) (get_or s i 0) ≡ true
each_alike [] [] e i = refl
each_alike [] (y ∷ ys) e i = absurd (false≢true e)
each_alike (x ∷ xs) [] e i = absurd (false≢true e)
each_alike (x ∷ xs) (y ∷ ys) e zero = (both (alike x y) (pointwise alike xs ys) e).0
each_alike (x ∷ xs) (y ∷ ys) e (suc i) = each_alike xs ys (both (alike x y) (pointwise alike xs ys) e).1 i

pub all_alike : (p s : List ℕ) → length p ≡ length s
    → ((i : ℕ) → i < length s → alike (get_or p i 0) (get_or s i 0) ≡ true) → pointwise alike p s ≡ true
all_alike [] [] n a = refl
all_alike [] (y ∷ ys) n a = absurd (omega (arith, n))
all_alike (x ∷ xs) [] n a = absurd (omega (arith, n))
all_alike (x ∷ xs) (y ∷ ys) n a =
    rw (a 0 (omega arith)) (all_alike xs ys (omega (arith, n)) (λ i p. a (suc i) (omega (arith, p))))

-- the same bytes are alike
pub bytes_alike : (p s : List ℕ) → same p s ≡ true → pointwise alike p s ≡ true
bytes_alike p s e = rw (same_true p s e) (names_equivalence.refl s)

-- and where no byte sought is a letter, only the same bytes are
pub bytes_alone : (p s : List ℕ) → ((i : ℕ) → letter (get_or s i 0) ≡ false) → pointwise alike p s ≡ same p s
unfolding same
bytes_alone [] [] n = refl
bytes_alone [] (y ∷ ys) n = refl
bytes_alone (x ∷ xs) [] n = refl
bytes_alone (x ∷ xs) (y ∷ ys) n = rw (other_alone x y (n 0), bytes_alone xs ys (λ i. n (suc i)))

-- if two texts are alike, so are their parts, and both with two quotes as one
pub front_alike : (n : ℕ) (xs ys : List ℕ) → pointwise alike xs ys ≡ true → pointwise alike (take n xs) (take n ys) ≡ true
front_alike zero xs ys e = refl
front_alike (suc n) [] [] e = refl
front_alike (suc n) [] (y ∷ ys) e = absurd (false≢true e)
front_alike (suc n) (x ∷ xs) [] e = absurd (false≢true e)
front_alike (suc n) (x ∷ xs) (y ∷ ys) e =
    let q = both (alike x y) (pointwise alike xs ys) e in rw q.0 (front_alike n xs ys q.1)

pub rest_alike : (n : ℕ) (xs ys : List ℕ) → pointwise alike xs ys ≡ true → pointwise alike (drop n xs) (drop n ys) ≡ true
rest_alike zero xs ys e = e
rest_alike (suc n) [] [] e = refl
rest_alike (suc n) [] (y ∷ ys) e = absurd (false≢true e)
rest_alike (suc n) (x ∷ xs) [] e = absurd (false≢true e)
rest_alike (suc n) (x ∷ xs) (y ∷ ys) e = rest_alike n xs ys (both (alike x y) (pointwise alike xs ys) e).1

quote_alike : (a b : ℕ) → alike a b ≡ true → eqb a 39 ≡ eqb b 39
quote_alike a b e = sym (other_alone a 39 refl) ∙ alike_equivalence.congr a b 39 e ∙ other_alone b 39 refl

pub undoubled_alike : (xs ys : List ℕ) → pointwise alike xs ys ≡ true → pointwise alike (undoubled xs) (undoubled ys) ≡ true
unfolding undoubled
undoubled_alike [] [] e = refl
undoubled_alike [] (y ∷ ys) e = absurd (false≢true e)
undoubled_alike (x ∷ xs) [] e = absurd (false≢true e)
undoubled_alike (x ∷ []) (y ∷ []) e = e
undoubled_alike (x ∷ []) (y ∷ z ∷ ys) e = absurd (false≢true (sym (and-false (alike x y)) ∙ e))
undoubled_alike (x ∷ w ∷ xs) (y ∷ []) e = absurd (false≢true (sym (and-false (alike x y)) ∙ e))
undoubled_alike (x ∷ w ∷ xs) (y ∷ z ∷ ys) e =
    let q = both (alike x y) (pointwise alike (w ∷ xs) (z ∷ ys)) e in
    let r = both (alike w z) (pointwise alike xs ys) q.1 in
    rw (← quote_alike x y q.0, ← quote_alike w z r.0) (either (eqb x 39 && eqb w 39)
    (λ t. rw (t, q.0) (undoubled_alike xs ys r.1))
    (λ t. rw (t, q.0) (undoubled_alike (w ∷ xs) (z ∷ ys) q.1)))
