-- A width is at most 16; the bound of a field's bytes.
-- Assumes nothing.
use Prim.Native.Nat.{ℕ, ◌*◌, ◌≤◌}
use native.Mathlib.Omega.{arith}
use native.Mathlib.Nat.{mul-le-mul}
use Rattle.ascii.specs.Text.{bytes}
use Rattle.ascii.proofs.Cases.{by_test}
use Rattle.tform.specs.declared.VariableArrayTy.{VariableArrayTy}
use Rattle.tform.specs.declared.VariableArrayTy.TheVariants.{L, X, B, I, J, K, A, E, D, C, M}
use Rattle.tform.specs.declared.TFormType.{TFormType}
use Rattle.tform.specs.declared.TFormType.TheVariants.{Items, P, Q}
use Rattle.tform.specs.Width.{among, letter_width, form_letter, items, field_items, field_bytes}

-- at most 16
pub width_bound : (b : ℕ) → letter_width b ≤ 16
unfolding letter_width
width_bound b =
    by_test (λ (n : ℕ). n ≤ 16) (among b (bytes "LBA")) (λ e. omega arith)
    (λ e. by_test (λ (n : ℕ). n ≤ 16) (among b (bytes "I")) (λ e. omega arith)
    (λ e. by_test (λ (n : ℕ). n ≤ 16) (among b (bytes "JE")) (λ e. omega arith)
    (λ e. by_test (λ (n : ℕ). n ≤ 16) (among b (bytes "KDC")) (λ e. omega arith)
    (λ e. by_test (λ (n : ℕ). n ≤ 16) (among b (bytes "M")) (λ e. omega arith)
    (λ e. by_test (λ (n : ℕ). n ≤ 16) (among b (bytes "X")) (λ e. omega arith)
    (λ e. by_test (λ (n : ℕ). n ≤ 16) (among b (bytes "P")) (λ e. omega arith)
    (λ e. by_test (λ (n : ℕ). n ≤ 16) (among b (bytes "Q")) (λ e. omega arith) (λ e. omega arith))))))))

-- at most the count
pub items_bound : (e : VariableArrayTy) (n : ℕ) → items e n ≤ n
items_bound L n = omega arith
items_bound X n = omega arith
items_bound B n = omega arith
items_bound I n = omega arith
items_bound J n = omega arith
items_bound K n = omega arith
items_bound A n = omega arith
items_bound E n = omega arith
items_bound D n = omega arith
items_bound C n = omega arith
items_bound M n = omega arith

pub field_items_bound : (f : TFormType) (n : ℕ) → field_items f n ≤ n
field_items_bound (Items e) n = items_bound e n
field_items_bound (P e) n = omega arith
field_items_bound (Q e) n = omega arith

pub field_bytes_bound : (f : TFormType) (n : ℕ) → field_bytes f n ≤ n * 16
field_bytes_bound f n = mul-le-mul (field_items_bound f n) (width_bound (form_letter f))
