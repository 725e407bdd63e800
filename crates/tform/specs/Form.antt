-- The form of a column as TFORMn writes it (FORMAT.md, section 7; the standard, 7.3.1 and 7.3.5): digits, a letter, and a rest that is ignored.
-- Assumes nothing.
use Rattle.std.specs.Prelude.{ℕ, List, [], ◌∷◌, cond, take, drop, eqb, Option, Some, None}
use Rattle.ascii.specs.Text.{front, digit, decimal}
use Rattle.tform.specs.declared.VariableArrayTy.{VariableArrayTy}
use Rattle.tform.specs.declared.VariableArrayTy.TheVariants as Ty
use Rattle.tform.specs.declared.TFormType.{TFormType}
use Rattle.tform.specs.declared.TFormType.TheVariants.{Items, P, Q}
use Rattle.tform.specs.declared.TForm.{TForm}
use Rattle.tform.specs.Width.{letter, count_ok}

-- the count: no digits mean 1
unfoldable pub repeat_count : List ℕ → ℕ
repeat_count s = cond (eqb (front digit s) 0) 1 (decimal 0 (take (front digit s) s))

-- the type that a letter names among some types
unfoldable pub element_among : ℕ → List VariableArrayTy → Option VariableArrayTy
element_among b [] = None
element_among b (e ∷ es) = cond (eqb b (letter e)) (Some e) (element_among b es)

-- the type that a letter names
unfoldable pub element_of : ℕ → Option VariableArrayTy
element_of b =
    element_among b (Ty.L ∷ Ty.X ∷ Ty.B ∷ Ty.I ∷ Ty.J ∷ Ty.K ∷ Ty.A ∷ Ty.E ∷ Ty.D ∷ Ty.C ∷ Ty.M ∷ [])

-- the type that the next letter names
unfoldable pub first_element : List ℕ → Option VariableArrayTy
first_element [] = None
first_element (b ∷ bs) = element_of b

-- the form with an element inside: of items, or of one of the two descriptors
abbrev pub kind_with : (VariableArrayTy → TFormType) → Option VariableArrayTy → Option TFormType
kind_with form (Some e) = Some (form e)
kind_with form None = None

-- the form by its letters: P (80) and Q (81) are followed by the letter of their elements
unfoldable pub kind_of : List ℕ → Option TFormType
kind_of [] = None
kind_of (b ∷ bs) = cond (eqb b 80) (kind_with P (first_element bs)) (cond (eqb b 81) (kind_with Q (first_element bs)) (kind_with Items (element_of b)))

-- a form with its count, which may be too large
abbrev pub counted : ℕ → Option TFormType → Option TForm
counted n (Some f) = cond (count_ok f n) (Some (record { form = f; count = n })) None
counted n None = None

-- the form that a text is
unfoldable pub form_of : List ℕ → Option TForm
form_of s = counted (repeat_count s) (kind_of (drop (front digit s) s))
