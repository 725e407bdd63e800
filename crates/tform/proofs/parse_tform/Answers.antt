-- `parse_tform` meets its contract: the count of the digits, and the form by the letters after them.
use Rattle.std.proofs.Common.{◌≡◌, ℕ, List, Option, Some, None, drop, sym, ap, ◌∙◌, arith}
use Rattle.ascii.specs.Text.{front, digit}
use Rattle.ascii.proofs.Front.{front_le}
use Rattle.tform.specs.declared.TFormType.{TFormType}
use Rattle.tform.specs.Form.{kind_of, counted, form_of}
use Rattle.tform.proofs.Count.{capped_count, capped_digits, all_digits, form_capped}
use Rattle.tform.proofs.parse_tform.Goals as goal

pub split_at-requires : goal.split_at-requires
split_at-requires c = omega (arith, c.leading_digits.ensures, front_le digit c.args.text.now)

pub repeat_count-requires : goal.repeat_count-requires
repeat_count-requires c = all_digits c.args.text.now _ c.leading_digits.result c.leading_digits.ensures c.split_at.ensures.front

-- the form by the letters is that of what follows the digits
kind_after : (s rest : List ℕ) (n : ℕ) (k : Option TFormType) → n ≡ front digit s → rest ≡ drop n s → k ≡ kind_of rest
    → kind_of (drop (front digit s) s) ≡ k
kind_after s rest n k e f g = sym (g ∙ ap kind_of (f ∙ ap (λ (d : ℕ). drop d s) e))

pub returns-in_err-form : goal.returns-in_err-form
returns-in_err-form c =
    let s = c.args.text.now in
    let k : kind_of (drop (front digit s) s) ≡ None =
    kind_after s _ c.leading_digits.result _ c.leading_digits.ensures c.split_at.ensures.back c.kind_of.ensures ∙ c.in_err-form.was in
    let z : counted (capped_count s) None ≡ form_of s = ap (λ (q : Option TFormType). counted (capped_count s) q) (sym k) ∙ form_capped s in
    c.from_residual.ensures ∙ z

pub returns : goal.returns
returns c =
    let s = c.args.text.now in
    let count : c.repeat_count.result ≡ capped_count s =
    c.repeat_count.ensures ∙ capped_digits s _ c.leading_digits.result c.leading_digits.ensures c.split_at.ensures.front in
    let k : kind_of (drop (front digit s) s) ≡ Some c.in_ok-form.form =
    kind_after s _ c.leading_digits.result _ c.leading_digits.ensures c.split_at.ensures.back c.kind_of.ensures ∙ c.in_ok-form.was in
    let z : counted (capped_count s) (Some c.in_ok-form.form) ≡ form_of s = ap (λ (q : Option TFormType). counted (capped_count s) q) (sym k) ∙ form_capped s in
    c.counted.ensures ∙ ap (λ (m : ℕ). counted m (Some c.in_ok-form.form)) count ∙ z
