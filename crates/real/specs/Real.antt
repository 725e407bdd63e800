-- A real number as a record's value (FORMAT.md, section 3; the standard, 4.2.4), and the double nearest to it.
-- Assumes nothing.
use Rattle.std.specs.Prelude.{ℕ, suc, ◌*◌, ◌^◌, List, [], ◌++◌, Bool, not, ◌&&◌, ◌||◌, cond, length, get_or, take, drop, eqb, ltb, leb, ℤ, pos, negsuc, neg_ℤ, ◌-ℤ◌, Option, Some, None}
use Rattle.std.specs.Float.{Float, binary64}
use Rattle.std.specs.Float.Ieee.{round}
use Rattle.ascii.specs.Text.{front, space, digit, decimal}
use Rattle.card.specs.Ends.{follows}
use Rattle.card.specs.Record.{card_at, has_value}
use Rattle.card.specs.Value.{signed}

-- ---- the double

-- the double nearest to m times 10 to the power p, halves to even, with a minus or without; 0 has no minus
unfoldable pub nearest : Bool → ℕ → ℤ → Float
nearest minus m (pos k) = round binary64 (minus && ltb 0 m) (m * 10 ^ k) 1
nearest minus m (negsuc k) = round binary64 (minus && ltb 0 m) m (10 ^ suc k)

-- a power from -22 to 22
abbrev pub power_ok : ℤ → Bool
power_ok (pos k) = leb k 22
power_ok (negsuc k) = ltb k 22

-- the double of digits that stand for m and of the power p: at most 15 digits with leading zeros off, and such a power
abbrev pub limited : Bool → ℕ → ℤ → Option Float
limited minus m p = cond (ltb m (10 ^ 15) && power_ok p) (Some (nearest minus m p)) None

-- ---- the parts of a text

-- the first byte; 0 where there is none, which is no sign, point or letter
abbrev pub first : List ℕ → ℕ
first s = get_or s 0 0

-- a sign, - (45) or + (43), or none
abbrev pub is_minus : List ℕ → Bool
is_minus s = eqb (first s) 45

abbrev pub after_sign : List ℕ → List ℕ
after_sign s = cond (is_minus s || eqb (first s) 43) (drop 1 s) s

-- the digits at the front, and what comes after them
abbrev pub digits : List ℕ → List ℕ
digits s = take (front digit s) s

abbrev pub after_digits : List ℕ → List ℕ
after_digits s = drop (front digit s) s

-- digits with at most one point (46): whether it stands there, the digits after it, and what comes after all
abbrev pub has_point : List ℕ → Bool
has_point s = eqb (first (after_digits s)) 46

abbrev pub fraction : List ℕ → List ℕ
fraction s = cond (has_point s) (digits (drop 1 (after_digits s))) []

abbrev pub after_number : List ℕ → List ℕ
after_number s = cond (has_point s) (after_digits (drop 1 (after_digits s))) (after_digits s)

abbrev pub all_digits : List ℕ → List ℕ
all_digits s = digits s ++ fraction s

-- E (69) or D (68), with which an exponent begins
abbrev pub has_exponent : List ℕ → Bool
has_exponent s = eqb (first s) 69 || eqb (first s) 68

-- ---- the number

-- m with so many digits after its point, and the exponent that this text begins with: a sign or none, and a digit or more.
-- The point is moved into the power
unfoldable pub with_exponent : Bool → ℕ → ℕ → List ℕ → Option Float
with_exponent minus m places s =
    let e = after_sign s in
    cond (ltb 0 (length (digits e)) && follows (after_digits e))
    (limited minus m (signed (is_minus s) (decimal 0 (digits e)) -ℤ pos places))
    None

-- m with so many digits after its point, and no exponent. Without a point 9223372036854775808 is taken too
unfoldable pub without_exponent : Bool → ℕ → Bool → ℕ → List ℕ → Option Float
without_exponent minus m point places s =
    cond (follows s)
    (cond (not point && eqb m 9223372036854775808) (Some (nearest minus m (pos 0))) (limited minus m (neg_ℤ (pos places))))
    None

-- what comes after the sign: a digit or more, with at most one point, and an exponent or none
unfoldable pub unsigned : Bool → List ℕ → Option Float
unsigned minus s =
    let m = decimal 0 (all_digits s) in
    let places = length (fraction s) in
    let rest = after_number s in
    cond (ltb 0 (length (all_digits s)))
    (cond (has_exponent rest) (with_exponent minus m places (drop 1 rest)) (without_exponent minus m (has_point s) places rest))
    None

-- the number that a text begins with, if it is one and if nothing but spaces or a comment comes after it
abbrev pub real_of : List ℕ → Option Float
real_of s = unsigned (is_minus s) (after_sign s)

-- that of a value field: a value begins at the first non-space
abbrev pub field_real : List ℕ → Option Float
field_real f = real_of (drop (front space f) f)

-- that of record k of a header, in bytes 11 to 80; a record that holds no value has none
unfoldable pub real_at : List ℕ → ℕ → Option Float
real_at h k = cond (has_value (card_at h k)) (field_real (drop 10 (card_at h k))) None
