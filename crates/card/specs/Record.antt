-- A record of a header (FORMAT.md, section 2; the standard, 4.1): 80 bytes, numbered from 0.
-- Assumes nothing.
use Rattle.std.specs.Prelude.{ℕ, ◌*◌, ◌/◌, List, [], ◌++◌, Bool, cond, length, take, drop, replicate, ltb}
use Rattle.ascii.specs.Text.{bytes, same, trim}

-- record k; a number past the last whole record gives a blank one
unfoldable pub card_at : List ℕ → ℕ → List ℕ
card_at h k = cond (ltb k (length h / 80)) (take 80 (drop (k * 80) h)) (replicate 80 32)

-- END: those three letters and 77 spaces
unfoldable pub is_end : List ℕ → Bool
is_end r = same r (bytes "END" ++ replicate 77 32)

-- it holds a value: bytes 9 and 10 are the value indicator
unfoldable pub has_value : List ℕ → Bool
has_value r = same (take 2 (drop 8 r)) (bytes "= ")

-- its name: bytes 1 to 8 without trailing spaces; a record that holds no value has none, which is the empty list
unfoldable pub name_of : List ℕ → List ℕ
name_of r = cond (has_value r) (trim (take 8 r)) []
