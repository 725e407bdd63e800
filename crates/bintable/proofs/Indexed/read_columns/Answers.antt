-- `read_columns` meets its contract: each step reads one column. At most 64 columns of a limited count: their bytes fit.
use Rattle.std.specs.Float.Ieee.{of_bits}
use Rattle.std.proofs.Common.{◌≡◌, ◌+◌, ◌∙◌, rules, refl, sym, ap, arith}
use Rattle.refusal.specs.Refusal.{Outcome, before}
use Rattle.layout.specs.Layout.{column_bytes}
use Rattle.bintable.specs.Entry.{column_check}
use Rattle.bintable.proofs.Filled.{next, checks_none, checks_next, checks_stop, filled_none, bytes_none, bytes_next, filled_next, bytes_bound}
use Rattle.bintable.proofs.Indexed.read_columns.Goals as goal

pub loop-i-init : goal.loop-i-init
unfolding of_bits
loop-i-init c = (omega arith, sym (checks_none _), filled_none _ _ refl, bytes_none _)

pub overflow_add-bytes : goal.overflow_add-bytes
overflow_add-bytes c =
    let h = c.args.self.now.header.now in let i = c.loop-i.i in
    let n : c.in_ok-column.column ≡ next h i = rw (← c.loop-i.invariant.3) c.in_ok-column.ensures.column in
    let e = c.num_bytes_field-bytes.ensures ∙ ap column_bytes n in
    omega (arith, e, bytes_next h i, bytes_bound h (i + 1))

pub loop-i-preserved : goal.loop-i-preserved
loop-i-preserved c =
    let h = c.args.self.now.header.now in let i = c.loop-i.i in
    let n : c.in_ok-column.column ≡ next h i = rw (← c.loop-i.invariant.3) c.in_ok-column.ensures.column in
    let e = c.num_bytes_field-bytes.ensures ∙ ap column_bytes n in (
      omega arith,
      sym (checks_next h i) ∙ ap (λ (o : Outcome). before o (column_check h (i + 1))) c.loop-i.invariant.1 ∙ sym c.in_ok-column.ensures.check,
      rw (c.loop-i.invariant.2, n) (filled_next h i (omega arith)),
      rw (← bytes_next h i) (omega (arith, e)),
    )

pub returns-in_err-column-clause-check : goal.returns-in_err-column-clause-check
returns-in_err-column-clause-check c =
    let e = checks_stop c.args.self.now.header.now c.loop-i.i c.args.tfields _ _ c.loop-i.invariant.1 (sym c.in_err-column.ensures.check) c.loop-i-test.true in
    search (rules, e)
