-- The profile page: a row of an E column as lines, one for each item (FORMAT.md, section 20).
-- Assumes nothing.
use Rattle.std.specs.Prelude.{ℕ, ◌+◌, ◌*◌, Bool, not, ◌&&◌, cond, List, [], ◌∷◌, ◌++◌, length, eqb, leb, ltb}
use Rattle.std.specs.Prelude.{Option, Some, None, is_some, Result, Ok, Err}
use Rattle.std.specs.Float.{binary32}
use Rattle.std.specs.Float.Ieee.{of_bits}
use Rattle.std.specs.List.{range_with_len}
use mathlib.Core.List.{flat_map}
use Rattle.ascii.specs.Number.{decimal_text, right_aligned}
use Rattle.ascii.specs.Buffer.{put_in}
use Rattle.refusal.specs.declared.Refusal.{Refusal}
use Rattle.refusal.specs.Refusal.{number_of, place_of}
use Rattle.tform.specs.declared.VariableArrayTy.TheVariants as T
use Rattle.tform.specs.Width.{form_letter}
use Rattle.layout.specs.declared.BinTable.{BinTable}
use Rattle.cell.specs.Item.{word, width}
use Rattle.walk.specs.Plain.{column_of, field_at}
use Rattle.walk.specs.Step.{fits}
use Rattle.weight.specs.declared.Edition.{Edition}
use Rattle.weight.specs.declared.Edition.TheVariants as Ed
use Rattle.weight.specs.Weight.{weight_text}

-- a line of 27 bytes: the row in 8 places, a space (32), the index in 6, a space, the weight in 10, a line feed (10),
-- all right-aligned
unfoldable pub profile_line : ℕ → ℕ → List ℕ → List ℕ
profile_line row idx weight =
    right_aligned 8 (decimal_text row)
    ++ (32 ∷ (right_aligned 6 (decimal_text idx) ++ (32 ∷ (right_aligned 10 weight ++ (10 ∷ [])))))

-- the stored bits of item i of an E column c in row r, and its weight as text
abbrev pub bits_at : BinTable → List ℕ → ℕ → ℕ → ℕ → ℕ
bits_at l a c r i = word a (field_at l r c + i * width T.E) 4

abbrev pub weight_at : BinTable → List ℕ → ℕ → ℕ → Edition → ℕ → List ℕ
weight_at l a c r edition i = weight_text edition (of_bits binary32 (bits_at l a c r i))

-- the page of column c in row r: a line for each item, by index
unfoldable pub profile_page : BinTable → List ℕ → ℕ → ℕ → Edition → List ℕ
profile_page l a c r edition =
    flat_map (λ i. profile_line r i (weight_at l a c r edition i)) (range_with_len 0 (column_of l c).count)

-- the edition with a number
abbrev pub edition_of : ℕ → Option Edition
edition_of n = cond (eqb n 1) (Some Ed.One) (cond (eqb n 2) (Some Ed.Two) None)

-- a column that has a page: the letter of its form is E (69), where that of `PE` is P, and neither TSCALn nor TZEROn is given
abbrev pub page_column : BinTable → ℕ → Bool
page_column l c = ltb c l.tfields && (eqb (form_letter (column_of l c).form) 69 && not (column_of l c).scaling_given)

-- what the call answers: how many bytes it wrote, or the number and place of a refusal
pub data Reply : Type 0 where
  wrote : ℕ → Reply
  refused : ℕ → ℕ → Reply

-- the page in an edition, which there may not be
abbrev pub page_in : BinTable → List ℕ → ℕ → ℕ → Option Edition → List ℕ
page_in l a c r None = []
page_in l a c r (Some edition) = profile_page l a c r edition

-- the answer, by the number of the edition and the length of the buffer
unfoldable pub page_reply : BinTable → List ℕ → ℕ → ℕ → ℕ → ℕ → Reply
page_reply l a c r edition room =
    let needed = length (page_in l a c r (edition_of edition)) in
    cond (fits l a)
    (cond (is_some (edition_of edition) && page_column l c)
    (cond (ltb r l.naxis2)
    (cond (leb needed room) (wrote needed) (refused 14 needed))
    (refused 12 r))
    (refused 15 0))
    (refused 10 0)

-- a buffer after a call: what the call writes, or what the buffer held where it refuses
abbrev pub left_by : Reply → List ℕ → List ℕ → List ℕ
left_by (wrote n) written held = written
left_by (refused n p) written held = held

-- the page goes to the front, and the rest of the buffer stays as it was
unfoldable pub page_left : BinTable → List ℕ → ℕ → ℕ → ℕ → List ℕ → List ℕ
page_left l a c r edition buffer =
    let page = page_in l a c r (edition_of edition) in
    left_by (page_reply l a c r edition (length buffer)) (put_in buffer 0 page) buffer

-- what the code's answer says
abbrev pub reply_of : Result ℕ Refusal → Reply
reply_of (Ok n) = wrote n
reply_of (Err r) = refused (number_of r) (place_of r)
