-- The bytes of an item, of a field and of its items (FORMAT.md, section 7; the standard, 7.3.1 and Table 18).
-- Assumes nothing.
use Rattle.std.specs.Prelude.{ℕ, ◌+◌, ◌*◌, ◌/◌, List, [], ◌∷◌, Bool, false, ◌||◌, cond, eqb, leb}
use Rattle.ascii.specs.Text.{bytes}
use Rattle.tform.specs.declared.VariableArrayTy.{VariableArrayTy}
use Rattle.tform.specs.declared.VariableArrayTy.TheVariants.{L, X, B, I, J, K, A, E, D, C, M}
use Rattle.tform.specs.declared.TFormType.{TFormType}
use Rattle.tform.specs.declared.TFormType.TheVariants.{Items, P, Q}

-- whether a number is one of some: a byte of some letters, an index of a list
unfoldable pub among : ℕ → List ℕ → Bool
among b [] = false
among b (c ∷ cs) = eqb b c || among b cs

-- the bytes of one item, by the form's letter: L, B, A 1; I 2; J, E 4; K, D, C 8; M 16; X, of which an item is one byte, 1; and of one
-- descriptor, at P and Q. 0 for a byte that is no form's letter
unfoldable pub letter_width : ℕ → ℕ
letter_width b =
    cond (among b (bytes "LBA")) 1
    (cond (among b (bytes "I")) 2
    (cond (among b (bytes "JE")) 4
    (cond (among b (bytes "KDC")) 8
    (cond (among b (bytes "M")) 16
    (cond (among b (bytes "X")) 1
    (cond (among b (bytes "P")) 8
    (cond (among b (bytes "Q")) 16 0)))))))

-- the letter of an item's type, in ASCII
abbrev pub letter : VariableArrayTy → ℕ
letter L = 76
letter X = 88
letter B = 66
letter I = 73
letter J = 74
letter K = 75
letter A = 65
letter E = 69
letter D = 68
letter C = 67
letter M = 77

-- the letter of a form: P is 80 and Q 81
abbrev pub form_letter : TFormType → ℕ
form_letter (Items e) = letter e
form_letter (P e) = 80
form_letter (Q e) = 81

-- the type of a form's items, or of the elements of its arrays
abbrev pub element : TFormType → VariableArrayTy
element (Items e) = e
element (P e) = e
element (Q e) = e

-- whether a column's numbers may be scaled: they are of type B, I, J, K, E or D
unfoldable pub can_scale : TFormType → Bool
can_scale f = among (letter (element f)) (bytes "BIJKED")

-- whether one of its numbers may stand for a missing value: they are of type B, I, J or K
unfoldable pub can_have_null : TFormType → Bool
can_have_null f = among (letter (element f)) (bytes "BIJK")

-- the items that a count stands for: of X, which are bits, one for each byte that they take, else as many as the count
abbrev pub items : VariableArrayTy → ℕ → ℕ
items X n = (n + 7) / 8
items L n = n
items B n = n
items I n = n
items J n = n
items K n = n
items A n = n
items E n = n
items D n = n
items C n = n
items M n = n

-- the items of a field; of P and Q, which count descriptors, as many as the count: at 0 the field is empty
abbrev pub field_items : TFormType → ℕ → ℕ
field_items (Items e) n = items e n
field_items (P e) n = n
field_items (Q e) n = n

-- the bytes of a field
abbrev pub field_bytes : TFormType → ℕ → ℕ
field_bytes f n = field_items f n * letter_width (form_letter f)

-- the largest count of a form: 1 of P and Q, which have one descriptor or none
abbrev pub count_limit : TFormType → ℕ
count_limit (Items e) = 8388608
count_limit (P e) = 1
count_limit (Q e) = 1

-- whether a count is within it
abbrev pub count_ok : TFormType → ℕ → Bool
count_ok f n = leb n (count_limit f)
