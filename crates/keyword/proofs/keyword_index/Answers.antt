-- `keyword_index` meets its contract: the digits are a number, and that is its numeral.
use Rattle.std.proofs.Common.{sym, ◌∙◌, rules}
use Rattle.keyword.proofs.Numerals.{too_long, leading_zero, no_number, number_read}
use Rattle.keyword.proofs.keyword_index.Goals as goal
use Rattle.keyword.proofs.keyword_index.Goals.{then-s-gt-INDEX_DIGITS-via-then-s-gt-INDEX_DIGITS, then-s-gt-INDEX_DIGITS-via-else-s-gt-INDEX_DIGITS+then-starts_with}

pub returns-then-s-gt-INDEX_DIGITS : goal.returns-then-s-gt-INDEX_DIGITS
returns-then-s-gt-INDEX_DIGITS c =
    let s = c.args.s.now in
    sym (elim c.then-s-gt-INDEX_DIGITS.branch [
      | then-s-gt-INDEX_DIGITS-via-then-s-gt-INDEX_DIGITS w ↦ too_long s w.if-s-gt-INDEX_DIGITS.true
      | then-s-gt-INDEX_DIGITS-via-else-s-gt-INDEX_DIGITS+then-starts_with w ↦
          leading_zero s (sym w.starts_with.ensures.value ∙ w.if-starts_with.true)
    ])

pub returns-in_err-n : goal.returns-in_err-n
returns-in_err-n c = c.from_residual.ensures ∙ sym (no_number c.args.s.now (sym c.in_err-n.was ∙ c.parse_number.ensures))

pub overflow_sub-result : goal.overflow_sub-result
overflow_sub-result c =
    (number_read c.args.s.now c.in_ok-n.n (sym c.in_ok-n.was ∙ c.parse_number.ensures) (search rules) (search rules)).least

pub returns : goal.returns
returns c =
    (number_read c.args.s.now c.in_ok-n.n (sym c.in_ok-n.was ∙ c.parse_number.ensures) (search rules) (search rules)).place
