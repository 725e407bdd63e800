-- Each of the 256 bytes that can stand for a form's letter has the width that the constant table gave it, from which the code took widths
-- until it worked them out by cases. A form begins with a byte just where its width is not 0, as before.
-- Assumes nothing.
use Rattle.std.proofs.Common.{◌≡◌, refl, ℕ, suc, ◌<◌, Bool, true, false, ◌||◌, cond, eqb, List, [], ◌∷◌, ◌++◌, replicate, get_or, zero-add, ne_eqb, arith, Option, Some, None}
use borrow.Author.Tests.{eqb-true}
use Rattle.ascii.specs.Text.{bytes}
use Rattle.tform.specs.declared.VariableArrayTy.{VariableArrayTy}
use Rattle.tform.specs.declared.VariableArrayTy.TheVariants.{L, X, B, I, J, K, A, E, D, C, M}
use Rattle.tform.specs.declared.TFormType.{TFormType}
use Rattle.tform.specs.declared.TFormType.TheVariants.{P, Q}
use Rattle.tform.specs.Width.{among, letter, form_letter, letter_width}
use Rattle.tform.specs.Form.{element_among, element_of, first_element, kind_of}
use Rattle.tform.proofs.Tables.{every, every_at}

-- the table that fell, of the letters A to Z
abbrev pub table_ato_z : List ℕ
table_ato_z = 1 ∷ 1 ∷ 8 ∷ 8 ∷ 4 ∷ 0 ∷ 0 ∷ 0 ∷ 2 ∷ 4 ∷ 8 ∷ 1 ∷ 16 ∷ 0 ∷ 0 ∷ 8 ∷ 16 ∷ 0 ∷ 0 ∷ 0 ∷ 0 ∷ 0 ∷ 0 ∷ 1 ∷ 0 ∷ 0 ∷ []

-- what it gave for the bytes 0 to 255: 0 below A and above Z
unfoldable pub table_widths : List ℕ
table_widths = replicate 65 0 ++ (table_ato_z ++ replicate 165 0)

abbrev pub table_width : ℕ → ℕ
table_width b = get_or table_widths b 0

-- of a byte: its width; that no form begins with it if that is 0; that else, but for P (80) and Q (81), it is the letter of a form whatever
-- follows; and that P and Q, followed by the letter of an element, are the descriptor that carries it
pub record AsBefore (b : ℕ) : Type 0 where
  pub width : letter_width b ≡ table_width b
  pub bad : table_width b ≡ 0 → (rest : List ℕ) → kind_of (b ∷ rest) ≡ None
  pub plain : 0 < table_width b → eqb b 80 || eqb b 81 ≡ false → (rest : List ℕ) → (f : TFormType) × (kind_of (b ∷ rest) ≡ Some f) × (form_letter f ≡ b)
  pub p : b ≡ 80 → (e : VariableArrayTy) (rest : List ℕ) → kind_of (b ∷ letter e ∷ rest) ≡ Some (P e)
  pub q : b ≡ 81 → (e : VariableArrayTy) (rest : List ℕ) → kind_of (b ∷ letter e ∷ rest) ≡ Some (Q e)

-- one more than the letter of a form, 0 for a bad one
abbrev letter_of : Option TFormType → ℕ
letter_of (Some f) = suc (form_letter f)
letter_of None = 0

abbrev is_unknown : Option TFormType → Bool
is_unknown (Some f) = false
is_unknown None = true

is_unknown_lem : (k : Option TFormType) → is_unknown k ≡ true → k ≡ None
is_unknown_lem (Some f) e = cc
is_unknown_lem None e = refl

is_form : (k : Option TFormType) (b : ℕ) → letter_of k ≡ suc b → (f : TFormType) × (k ≡ Some f) × (form_letter f ≡ b)
is_form (Some f) b e = (f, refl, omega arith)
is_form None b e = absurd (omega arith)

-- the three tests of a byte b, of which the table has x
width_test : ℕ → ℕ → Bool
unfolding letter_width among bytes
width_test b x = eqb (letter_width b) x

bad_test : List ℕ → ℕ → ℕ → Bool
unfolding kind_of element_of element_among
bad_test rest b x = cond (eqb x 0) (is_unknown (kind_of (b ∷ rest))) true

plain_test : List ℕ → ℕ → ℕ → Bool
unfolding kind_of element_of element_among
plain_test rest b x = cond (eqb x 0) true (cond (eqb b 80 || eqb b 81) true (eqb (letter_of (kind_of (b ∷ rest))) (suc b)))

passes : (f : ℕ → ℕ → Bool) → every f 0 table_widths ≡ true → (b : ℕ) → b < 256 → f b (table_width b) ≡ true
unfolding table_widths
passes f t b h = rw zero-add at (every_at f table_widths 0 t b h)

bad_of : (rest : List ℕ) (b x : ℕ) → bad_test rest b x ≡ true → x ≡ 0 → kind_of (b ∷ rest) ≡ None
unfolding bad_test
bad_of rest b x t e = is_unknown_lem (kind_of (b ∷ rest)) (rw e at t)

plain_of : (rest : List ℕ) (b x : ℕ) → plain_test rest b x ≡ true → 0 < x → eqb b 80 || eqb b 81 ≡ false
    → (f : TFormType) × (kind_of (b ∷ rest) ≡ Some f) × (form_letter f ≡ b)
unfolding plain_test
plain_of rest b x t h n =
    let ne : eqb x 0 ≡ false = ne_eqb x 0 (omega arith) in
    let passed : eqb (letter_of (kind_of (b ∷ rest))) (suc b) ≡ true = rw (ne, n) at t in
    is_form (kind_of (b ∷ rest)) b (eqb-true _ _ passed)

every_plain : (rest : List ℕ) → every (plain_test rest) 0 table_widths ≡ true
unfolding plain_test table_widths
every_plain rest = refl

every_bad : (rest : List ℕ) → every (bad_test rest) 0 table_widths ≡ true
unfolding bad_test table_widths
every_bad rest = refl

every_width : every width_test 0 table_widths ≡ true
unfolding width_test table_widths
every_width = refl

width_of : (b x : ℕ) → width_test b x ≡ true → letter_width b ≡ x
unfolding width_test
width_of b x t = eqb-true (letter_width b) x t

p_of : (e : VariableArrayTy) (rest : List ℕ) → kind_of (80 ∷ letter e ∷ rest) ≡ Some (P e)
unfolding kind_of element_of element_among first_element
p_of L rest = refl
p_of X rest = refl
p_of B rest = refl
p_of I rest = refl
p_of J rest = refl
p_of K rest = refl
p_of A rest = refl
p_of E rest = refl
p_of D rest = refl
p_of C rest = refl
p_of M rest = refl

q_of : (e : VariableArrayTy) (rest : List ℕ) → kind_of (81 ∷ letter e ∷ rest) ≡ Some (Q e)
unfolding kind_of element_of element_among first_element
q_of L rest = refl
q_of X rest = refl
q_of B rest = refl
q_of I rest = refl
q_of J rest = refl
q_of K rest = refl
q_of A rest = refl
q_of E rest = refl
q_of D rest = refl
q_of C rest = refl
q_of M rest = refl

pub each_byte : (b : ℕ) → b < 256 → AsBefore b
each_byte b h = record {
  width = width_of b (table_width b) (passes width_test every_width b h);
  bad = λ z rest. bad_of rest b (table_width b) (passes (bad_test rest) (every_bad rest) b h) z;
  plain = λ z n rest. plain_of rest b (table_width b) (passes (plain_test rest) (every_plain rest) b h) z n;
  p = λ e y rest. rw e (p_of y rest);
  q = λ e y rest. rw e (q_of y rest);
}
