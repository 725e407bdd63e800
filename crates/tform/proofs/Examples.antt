-- Some forms and the bytes that each takes, through the definitions that the contracts cite.
-- Assumes nothing.
use mathlib.Core.Path.{◌≡◌, refl}
use mathlib.Core.List.{List, [], ◌∷◌, map}
use Prim.Native.Nat.{ℕ}
use lib.ListN.{replicate}
use Rattle.ascii.specs.Text.{bytes, front, decimal}
use Rattle.tform.specs.declared.VariableArrayTy.TheVariants.{E}
use Rattle.tform.specs.declared.TFormType.TheVariants.{P}
use Rattle.std.specs.Prelude.{Option, Some, None}
use Rattle.tform.specs.declared.TForm.{TForm}
use Rattle.tform.specs.Width.{among, letter_width, field_bytes}
use Rattle.tform.specs.Form.{repeat_count, element_among, element_of, first_element, kind_of, form_of}

-- the bytes of a field of a form, or a bad form
pub data Size : Type 0 where
  takes : ℕ → Size
  bad : Size

abbrev pub size_of : Option TForm → Size
size_of (Some t) = takes (field_bytes t.form t.count)
size_of None = bad

-- the nine texts
unfoldable pub form_texts : List (List ℕ)
form_texts = bytes "8X" ∷ bytes "9X" ∷ bytes "0E" ∷ bytes "E" ∷ bytes "12M" ∷ bytes "PE(20)" ∷ bytes "1QD" ∷ bytes "3Z" ∷ bytes " 1E" ∷ []

unfoldable pub form_sizes : List Size
form_sizes = takes 1 ∷ takes 2 ∷ takes 0 ∷ takes 4 ∷ takes 192 ∷ takes 8 ∷ takes 16 ∷ bad ∷ bad ∷ []

pub nine_forms : map (λ (s : List ℕ). size_of (form_of s)) form_texts ≡ form_sizes
unfolding bytes front decimal among letter_width repeat_count element_among element_of first_element kind_of form_of form_texts form_sizes
nine_forms = refl

-- ---- P and Q: one descriptor, or none

unfoldable pub descriptor_texts : List (List ℕ)
descriptor_texts =
    bytes "0PE" ∷ bytes "0QD" ∷ bytes "00PE" ∷ bytes "1PE" ∷ bytes "00001QD" ∷ bytes "2PE" ∷ bytes "2QD"
    ∷ bytes "8388608PE" ∷ bytes "0P" ∷ bytes "0PZ" ∷ []

unfoldable pub descriptor_sizes : List Size
descriptor_sizes = takes 0 ∷ takes 0 ∷ takes 0 ∷ takes 8 ∷ takes 16 ∷ bad ∷ bad ∷ bad ∷ bad ∷ bad ∷ []

pub descriptor_forms : map (λ (s : List ℕ). size_of (form_of s)) descriptor_texts ≡ descriptor_sizes
unfolding bytes front decimal among letter_width repeat_count element_among element_of first_element kind_of form_of descriptor_texts descriptor_sizes
descriptor_forms = refl

-- four spellings of one descriptor
pub one_descriptor : map form_of (bytes "1PE" ∷ bytes "PE" ∷ bytes "PE(20)" ∷ bytes "00001PE" ∷ [])
    ≡ replicate 4 (Some (record { form = P E; count = 1 }))
unfolding bytes front decimal among letter_width repeat_count element_among element_of first_element kind_of form_of
one_descriptor = refl
