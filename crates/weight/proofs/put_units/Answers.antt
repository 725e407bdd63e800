-- `put_units` meets its contract: it puts four texts one after the other, of 13 bytes at most.
use Rattle.std.proofs.Common.{◌≡◌, ◌≤◌, ◌<◌, ◌+◌, ◌-◌, ◌/◌, ◌^◌, ℕ, Bool, ◌&&◌, List, [], ◌∷◌, ◌++◌, length, take}
use Rattle.std.proofs.Common.{ap, sym, ◌∙◌, arith}
use lib.Dec.{ltb}
use lib.ListN.{length-append}
use Rattle.ascii.specs.Number.{decimal_in, decimal_text}
use Rattle.ascii.proofs.Cases.{by_test}
use Rattle.ascii.proofs.Chain.{Put, Tried, fitted, tried_as, joined, front}
use Rattle.ascii.proofs.Lengths.{put_length}
use Rattle.weight.specs.declared.Edition.{Edition}
use Rattle.weight.specs.declared.Edition.TheVariants.{One, Two}
use Rattle.weight.specs.Weight.{decimals, sign_text, last_digits, units_text}
use Rattle.ascii.proofs.Lengths.{few_digits}
use Rattle.weight.proofs.Digits.{decimal_enough}
use Rattle.weight.proofs.Long.{decimals_range, last_length}
use Rattle.weight.proofs.put_units.Goals as goal

-- a text, and then the rest in the room after it
next : (o : List ℕ) (at : ℕ) (s t : List ℕ) {p : ℕ} {o' : List ℕ} {q : ℕ} {o'' : List ℕ}
    → at + length (s ++ t) ≤ length o
    → Tried o at s p o' → (p + length t ≤ length o' → Put o' p t q o'') → Put o at (s ++ t) q o''
next o at s t {p} {o'} {q} {o''} h first rest =
    let room : at + (length s + length t) ≤ length o = simp length-append at h in
    let f = fitted o at s (omega arith) first in
    let l : length o' ≡ length o = ap length f.1 ∙ put_length o at s (omega arith) in
    let r = rest (omega (arith, f.0)) in
    joined o at s t (omega (arith, f.0, r.0)) f r

whole_below : (ed : Edition) (units : ℕ) → units < 17179869184 → units / 10 ^ decimals ed < 10 ^ (11 - decimals ed)
whole_below One units h = omega arith
whole_below Two units h = omega arith

sign_length : (negative : Bool) (units : ℕ) → length (sign_text negative units) ≤ 1
sign_length negative units =
    by_test (λ (s : List ℕ). length s ≤ 1) (negative && ltb 0 units) (λ t. omega arith) (λ t. omega arith)

-- the four texts, in a buffer of 13 bytes
texts_put : (o : List ℕ) (ed : Edition) (negative : Bool) (units : ℕ) {p1 p2 p3 p4 : ℕ} {o1 o2 o3 o4 : List ℕ}
    → length o ≡ 13 → units < 17179869184 → Tried o 0 (sign_text negative units) p1 o1
    → Tried o1 p1 (decimal_text (units / 10 ^ decimals ed)) p2 o2 → Tried o2 p2 (46 ∷ []) p3 o3
    → Tried o3 p3 (last_digits (decimals ed) units) p4 o4
    → (p4 ≡ length (units_text ed negative units)) × (take p4 o4 ≡ units_text ed negative units)
unfolding units_text
texts_put o ed negative units {p1} {p2} {p3} {p4} {o1} {o2} {o3} {o4} l few t1 t2 t3 t4 =
    let n = units / 10 ^ decimals ed in
    let s = sign_text negative units in
    let w = decimal_in 39 n in
    let d = last_digits (decimals ed) units in
    let below : n < 10 ^ (11 - decimals ed) = whole_below ed units few in
    let same : decimal_text n ≡ w = sym (decimal_enough 19 38 n (omega arith) (omega arith)) in
    let r = decimals_range ed in
    let wl : length w ≤ 11 - decimals ed = few_digits 39 (11 - decimals ed) n below (omega (arith, r)) in
    let short : length (s ++ (w ++ (46 ∷ d))) ≤ 13 =
    simp length-append (omega (arith, sign_length negative units, last_length ed units, r)) in
    let put : Put o 0 (s ++ (w ++ (46 ∷ d))) p4 o4 =
    next o 0 s (w ++ (46 ∷ d)) (omega arith) t1
    (λ r1. next o1 p1 w (46 ∷ d) r1 (tried_as o1 p1 same t2)
    (λ r2. next o2 p2 (46 ∷ []) d r2 t3 (λ r3. fitted o3 p3 d r3 t4))) in
    (omega (arith, put.0), front o (s ++ (w ++ (46 ∷ d))) (omega (arith, put.0)) put)

pub returns : goal.returns
returns c =
    let a = c.args in
    let put = c.put-after_sign.ensures in
    let first = tried_as a.out.now 0 c.sign.ensures (put.place, put.buffer) in
    let whole = rw c.scale.ensures at c.put_decimal-after_whole.ensures in
    let point = c.put-after_point.ensures in
    let last = c.put_decimals.ensures in
    let texts =
    texts_put a.out.now a.edition a.negative a.units c.told-out c.requires first
    (whole.place, whole.buffer) (point.place, point.buffer) (last.place, last.buffer) in
    record { len = texts.0; text = texts.1 }
