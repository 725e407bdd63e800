-- The digits of a number are those that the library prints.
-- Assumes nothing.
use Rattle.std.proofs.Common.{◌≡◌, ℕ, zero, suc, ◌+◌, ◌*◌, ◌/◌, ◌%◌, ◌^◌, ◌<◌, List, [], ◌∷◌, ◌++◌, true, false, ap, sym, ◌∙◌, arith}
use Rattle.std.specs.Fmt.{digits, digits_onto, decimal}
use native.Mathlib.Nat.{pow-suc, not-suc-le-zero}
use lib.Dec.{ltb}
use lib.Seq.{append_snoc}
use Rattle.std.proofs.lemmas.List.{append-nil}
use borrow.Author.Tests.{eq-eqb, ne_eqb, lt-ltb, ltb-true, ltb-false}
use Rattle.ascii.specs.Number.{decimal_in, decimal_text}
use Rattle.ascii.proofs.Cases.{either}

-- of a number of k digits at most, with room for j
printed_onto : (j k n : ℕ) (s : List ℕ) → k < j → n < 10 ^ suc k → digits_onto j 10 false n s ≡ decimal_in (suc k) n ++ s
unfolding decimal_in
printed_onto zero k n s h few = absurd (not-suc-le-zero h)
printed_onto (suc j) zero n s h few =
    rw (eq-eqb (n / 10) 0 (omega arith), lt-ltb (n % 10) 10 (omega arith), lt-ltb n 10 (omega arith))
    (ap (λ (x : ℕ). (48 + x) ∷ s) (omega arith))
printed_onto (suc j) (suc k) n s h few =
    let d : ltb (n % 10) 10 ≡ true = lt-ltb (n % 10) 10 (omega arith) in
    let ten : 10 ^ suc (suc k) ≡ 10 ^ suc k * 10 = pow-suc 10 (suc k) in
    either (ltb n 10)
    (λ t. let small = ltb-true n 10 t in
    rw (eq-eqb (n / 10) 0 (omega arith), d, t) (ap (λ (x : ℕ). (48 + x) ∷ s) (omega arith)))
    (λ t. let big = ltb-false n 10 t in
    rw (ne_eqb (n / 10) 0 (λ e. omega arith), d, t)
    (printed_onto j k (n / 10) ((48 + n % 10) ∷ s) (omega arith) (omega (arith, ten))
    ∙ sym (append_snoc (decimal_in (suc k) (n / 10)) (48 + n % 10) s)))

pub printed : (n : ℕ) → n < 2 ^ 64 → decimal n ≡ decimal_text n
unfolding digits
printed n h = printed_onto 64 19 n [] (omega arith) (omega arith) ∙ append-nil (decimal_text n)
