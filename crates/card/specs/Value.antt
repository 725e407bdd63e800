-- The value of a record (FORMAT.md, section 3; the standard, 4.1.2.3, 4.2.1.1 and 4.2.3).
-- Assumes nothing.
use Rattle.std.specs.Prelude.{ℕ, ◌+◌, ◌*◌, List, [], ◌∷◌, Bool, true, false, ◌&&◌, cond, length, take, drop, eqb, ltb, leb, ℤ, pos, neg_ℤ, Option, Some, None}
use Rattle.card.specs.declared.Value.{Value}
use Rattle.card.specs.declared.Value.TheVariants.{Integer, String}
use Rattle.ascii.specs.Text.{front, space, digit, trim, decimal}
use Rattle.card.specs.Ends.{follows, closing}
use Rattle.card.specs.Record.{card_at, has_value}

-- n, or with a minus its negative
abbrev pub signed : Bool → ℕ → ℤ
signed true n = neg_ℤ (pos n)
signed false n = pos n

-- one digit or more, but not more than `most`, and after them what may come after a value
unfoldable pub digits_value : ℕ → Bool → List ℕ → Option ℤ
digits_value most minus s =
    cond (ltb 0 (front digit s) && (leb (front digit s) most && follows (drop (front digit s) s)))
    (Some (signed minus (decimal 0 (take (front digit s) s))))
    None

-- an integer of that many digits at most: a sign or none, - (45) or + (43), and its digits
unfoldable pub integer_value : ℕ → List ℕ → Option ℤ
integer_value most [] = None
integer_value most (b ∷ bs) =
    cond (eqb b 45) (digits_value most true bs) (cond (eqb b 43) (digits_value most false bs) (digits_value most false (b ∷ bs)))

-- an integer as a value
abbrev pub as_value : Option ℤ → Option Value
as_value (Some z) = Some (Integer z)
as_value None = None

-- a string, from the byte after its opening quote, which stands at place `start` of the header: the stretch up to the quote
-- that closes it, trailing spaces off
unfoldable pub string_value : ℕ → List ℕ → Option Value
string_value start s =
    cond (ltb (closing s) (length s) && follows (drop (closing s + 1) s)) (Some (String start (length (trim (take (closing s) s))))) None

-- a value that begins at place `start` of the header: a string if a quote (39) stands there, else an integer of 18 digits at most
unfoldable pub value_from : ℕ → List ℕ → Option Value
value_from start [] = None
value_from start (b ∷ bs) = cond (eqb b 39) (string_value (start + 1) bs) (as_value (integer_value 18 (b ∷ bs)))

-- a value field, whose first byte stands at place `start` of the header: its value begins at the first non-space
unfoldable pub field_value : ℕ → List ℕ → Option Value
field_value start f = value_from (start + front space f) (drop (front space f) f)

-- the value of record k of a header, in bytes 11 to 80; a record that holds no value has an unreadable one
unfoldable pub value_of : List ℕ → ℕ → Option Value
value_of h k = cond (has_value (card_at h k)) (field_value (k * 80 + 10) (drop 10 (card_at h k))) None

-- an integer of 19 digits at most, which TNULLn may have, in a value field: it begins at the first non-space
abbrev pub field_wide : List ℕ → Option ℤ
field_wide f = integer_value 19 (drop (front space f) f)

-- that of record k of a header; a record that holds no value has none
unfoldable pub wide_of : List ℕ → ℕ → Option ℤ
wide_of h k = cond (has_value (card_at h k)) (field_wide (drop 10 (card_at h k))) None
