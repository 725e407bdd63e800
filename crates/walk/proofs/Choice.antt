-- The choice as bits: which columns a selection's choice has, and how a choice is cut down column by column.
-- Assumes nothing.
use Prim.Native.Nat.{ℕ, zero, suc, ◌+◌, ◌-◌, ◌*◌, ◌/◌, ◌%◌, ◌^◌, ◌<◌, ◌≤◌}
use mathlib.Core.Path.{◌≡◌, refl, sym, ap, ◌∙◌}
use mathlib.Core.Logic.{◌≢◌}
use mathlib.Core.List.{List}
use mathlib.Core.Bool.{Bool, true, false, cond, ◌&&◌, and-true, false≢true}
use native.Mathlib.Nat.{add-zero, zero-add, add-suc, suc-add, pow-succ', pow-zero, div-one, div-div-eq-div-mul, div-eq_of_lt, div-lt_iff_lt-mul, one-mul, lt_of_lt_of_le, not-le_of_lt}
use native.Mathlib.Omega.{arith}
use lib.Dec.{eqb, ltb, leb-suc-suc}
use lib.ListN.{length, get_or, drop}
use lib.Seq.{drop-cons}
use lib.Pow.{pow_pos, pow_mono}
use borrow.Author.Tests.{ltb-true, lt-ltb, ltb-false, le-ltb, eqb-false, eq-eqb, ne_eqb}
use Rattle.ascii.proofs.Cases.{by_test, both, either}
use Rattle.tform.specs.Width.{among}
use Rattle.layout.specs.declared.BinTable.{BinTable}
use Rattle.walk.specs.Plain.{chosen}
use Rattle.walk.specs.Step.{Selection, wanted, choice_ok, choice_from, choice_of}

-- bit 0, and the bits above it
chosen_zero : (m : ℕ) → chosen m 0 ≡ eqb (m % 2) 1
unfolding chosen
chosen_zero m = rw (pow-zero, div-one)

chosen_suc : (m c : ℕ) → chosen m (suc c) ≡ chosen (m / 2) c
unfolding chosen
chosen_suc m c = rw (pow-succ' 2 c, ← div-div-eq-div-mul m 2 (2 ^ c))

-- a bit above all
pub unchosen : (m c : ℕ) → m < 2 ^ c → chosen m c ≡ false
unfolding chosen
unchosen m c h = rw (div-eq_of_lt h)

half : (t : Bool) (x : ℕ) → (cond t 1 0 + 2 * x) / 2 ≡ x
half true x = omega arith
half false x = omega arith

odd : (t : Bool) (x : ℕ) → eqb ((cond t 1 0 + 2 * x) % 2) 1 ≡ t
odd true x = let e : (1 + 2 * x) % 2 ≡ 1 = omega arith in rw e
odd false x = let e : (0 + 2 * x) % 2 ≡ 0 = omega arith in rw e

-- column c + k is in the choice from column c on if it is one of the n and wanted
chosen_from : (sel : Selection) (c n k : ℕ) → chosen (choice_from sel c n) k ≡ (ltb k n && wanted sel (c + k))
unfolding choice_from
chosen_from sel c zero k = rw (le-ltb k 0 (omega arith)) (unchosen 0 k (pow_pos k))
chosen_from sel c (suc n) zero = rw (chosen_zero, odd (wanted sel c) (choice_from sel (suc c) n), add-zero, lt-ltb 0 (suc n) (omega arith))
chosen_from sel c (suc n) (suc k) =
    rw (chosen_suc, half (wanted sel c) (choice_from sel (suc c) n), leb-suc-suc (suc k) n, add-suc c k, ← suc-add c k) (chosen_from sel (suc c) n k)

-- a selection's choice has the layout's columns that are wanted
pub chosen_of : (l : BinTable) (sel : Selection) (c : ℕ) → chosen (choice_of l sel) c ≡ (ltb c l.tfields && wanted sel c)
chosen_of l sel c = rw zero-add at (chosen_from sel 0 l.tfields c)

-- and no bit above them
pub choice_below : (sel : Selection) (c n : ℕ) → choice_from sel c n < 2 ^ n
unfolding choice_from
choice_below sel c zero = rw pow-zero (omega arith)
choice_below sel c (suc n) =
    rw (pow-succ' 2 n)
    (by_test (λ (b : ℕ). b + 2 * choice_from sel (suc c) n < 2 * 2 ^ n) (wanted sel c)
    (λ e. omega (arith, choice_below sel (suc c) n)) (λ e. omega (arith, choice_below sel (suc c) n)))

-- a choice that belongs has only columns of the layout
pub choice_columns : (l : BinTable) (m c : ℕ) → choice_ok l m ≡ true → chosen m c ≡ true → c < l.tfields
unfolding choice_ok
choice_columns l m c ok e =
    either (ltb c l.tfields) (λ t. ltb-true c l.tfields t)
    (λ t.
    absurd (false≢true (sym (unchosen m c (lt_of_lt_of_le (ltb-true m _ (both (ltb 0 m) (ltb m (2 ^ l.tfields)) ok).1) (pow_mono (ltb-false c l.tfields t)))) ∙ e)))

-- and at least one of them
some_chosen : (n m : ℕ) → 0 < m → m < 2 ^ n → (c : ℕ) × (chosen m c ≡ true)
some_chosen zero m h u = absurd (omega (arith, h, rw pow-zero at u))
some_chosen (suc n) m h u =
    either (eqb (m % 2) 1) (λ e. (0, chosen_zero m ∙ e))
    (λ e.
    let q : m % 2 ≢ 1 = eqb-false (m % 2) 1 e in
    let rest = some_chosen n (m / 2) (omega (arith, q, h)) (omega (arith, rw (pow-succ' 2 n) at u)) in
    (suc rest.0, chosen_suc m rest.0 ∙ rest.1))

pub choice_some : (l : BinTable) (m : ℕ) → choice_ok l m ≡ true → (c : ℕ) × (chosen m c ≡ true)
unfolding choice_ok
choice_some l m ok = some_chosen l.tfields m (ltb-true 0 m (both (ltb 0 m) (ltb m (2 ^ l.tfields)) ok).0) (ltb-true m _ (both (ltb 0 m) (ltb m (2 ^ l.tfields)) ok).1)

-- a choice that has a column is not 0
pub chosen_some : (m c : ℕ) → chosen m c ≡ true → 0 < m
unfolding chosen
chosen_some zero c e = absurd (false≢true (sym (unchosen 0 c (pow_pos c)) ∙ e))
chosen_some (suc m) c e = omega arith

-- and one whose columns are all unwanted is
pub choice_none : (l : BinTable) (sel : Selection) → ((c : ℕ) → c < l.tfields → wanted sel c ≡ false) → ltb 0 (choice_of l sel) ≡ false
choice_none l sel none =
    either (ltb 0 (choice_of l sel))
    (λ t.
    let q = some_chosen l.tfields (choice_of l sel) (ltb-true 0 _ t) (choice_below sel 0 l.tfields) in
    let h = both (ltb q.0 l.tfields) (wanted sel q.0) (sym (chosen_of l sel q.0) ∙ q.1) in
    absurd (false≢true (sym (none q.0 (ltb-true q.0 l.tfields h.0)) ∙ h.1)))
    (λ t. t)

-- ---- for the code

-- the choice of the columns from c on, and with the one before c
pub choice_back : (sel : Selection) (n c : ℕ) → 0 < c → c ≤ n
    → choice_from sel (c - 1) (n - (c - 1)) ≡ cond (wanted sel (c - 1)) 1 0 + 2 * choice_from sel c (n - c)
unfolding choice_from
choice_back sel n c h k =
    let e : n - (c - 1) ≡ suc (n - c) = omega arith in
    let q : suc (c - 1) ≡ c = omega arith in
    rw (e, q)

pub choice_end : (sel : Selection) (n : ℕ) → choice_from sel n (n - n) ≡ 0
unfolding choice_from
choice_end sel n = let e : n - n ≡ 0 = omega arith in rw e

-- a selection's choice belongs if it has a column at all
pub choice_any : (l : BinTable) (sel : Selection) → choice_ok l (choice_of l sel) ≡ ltb 0 (choice_of l sel)
unfolding choice_ok
choice_any l sel = rw (lt-ltb _ _ (choice_below sel 0 l.tfields), and-true)

-- no bit from column n on
pub shift_test : (m n : ℕ) → eqb (m / 2 ^ n) 0 ≡ ltb m (2 ^ n)
shift_test m n =
    either (ltb m (2 ^ n)) (λ e. ap (λ (x : ℕ). eqb x 0) (div-eq_of_lt (ltb-true m (2 ^ n) e)) ∙ sym e)
    (λ e. ne_eqb (m / 2 ^ n) 0 (λ q. not-le_of_lt (below q) (ltb-false m (2 ^ n) e)) ∙ sym e)
  where
    below : m / 2 ^ n ≡ 0 → m < 2 ^ n
    below q = let h : m / 2 ^ n < 1 = omega (arith, q) in rw one-mul at ((div-lt_iff_lt-mul (pow_pos n)).0 h)

-- a list of indexes, looked through from its front
module _ (c : ℕ) (is : List ℕ) (i : ℕ) (h : i < length is) where
  pub among_here : get_or is i 0 ≡ c → among c (drop i is) ≡ true
  unfolding among
  among_here e = rw (drop-cons is i 0 h, e, eq-eqb c c refl)
