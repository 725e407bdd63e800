-- `read_layout` meets its contract: the sizes are those of the names, within their limits, and the columns are read.
use Rattle.std.proofs.Common.{◌≡◌, ℕ, List, cond, eqb, rules, ap, ap₂, ◌∙◌, arith}
use Rattle.refusal.specs.Refusal.{Outcome, accepted, refused, before}
use Rattle.layout.specs.Layout.{row_bytes}
use Rattle.bintable.specs.Checks.{value_at, size_for, record_for}
use Rattle.bintable.specs.Entry.{column_checks, columns_from, main_of, theap_in, layout_of, check9}
use Rattle.bintable.proofs.Bounds.{main_limit}
use Rattle.bintable.proofs.Entered.{nine_sizes, nine_tfields, row_check, header_short}
use Rattle.bintable.proofs.Indexed.read_layout.Goals as goal

pub overflow_mul-naxis1 : goal.overflow_mul-naxis1
overflow_mul-naxis1 c =
    rw (c.size-naxis1.ensures, c.size-naxis2.ensures) (omega (arith, main_limit c.args.self.now.header.now (nine_sizes c.args.self.now.header.now c.requires.1)))

pub read_columns-requires : goal.read_columns-requires
read_columns-requires c =
    let h = c.args.self.now.header.now in
    ((header_short h c.requires.0, rw c.size-tfields.ensures (nine_tfields h c.requires.1)))

-- the columns pass, and check 9 is that of the layout
row_after : (h : List ℕ) (bytes naxis1 tfields : ℕ) (o : Outcome) → accepted ≡ column_checks h tfields
    → bytes ≡ row_bytes (columns_from h 0 1 tfields) → tfields ≡ size_for h "TFIELDS" → naxis1 ≡ size_for h "NAXIS1"
    → o ≡ cond (eqb bytes naxis1) accepted (refused 9 0)
    → o ≡ before (column_checks h (size_for h "TFIELDS")) (check9 (layout_of h))
row_after h bytes naxis1 tfields o passed b t n e =
    e ∙ ap₂ (λ (x y : ℕ). cond (eqb x y) accepted (refused 9 0)) (b ∙ ap (λ (k : ℕ). row_bytes (columns_from h 0 1 k)) t) n
    ∙ row_check h ∙ ap (λ (q : Outcome). before q (check9 (layout_of h))) (passed ∙ ap (column_checks h) t)

pub returns-in_err-check9-clause-check : goal.returns-in_err-check9-clause-check
returns-in_err-check9-clause-check c =
    let read = c.in_ok-read.ensures in
    let e = row_after c.args.self.now.header.now _ _ _ _ read.check read.columns.1 c.size-tfields.ensures c.size-naxis1.ensures c.in_err-check9.ensures in
    search (rules, e)

pub returns-clause-check : goal.returns-clause-check
returns-clause-check c =
    let read = c.in_ok-read.ensures in
    row_after c.args.self.now.header.now _ _ _ _ read.check read.columns.1 c.size-tfields.ensures c.size-naxis1.ensures c.in_ok-check9.ensures

pub returns-clause-layout : goal.returns-clause-layout
unfolding layout_of
returns-clause-layout c =
    let h = c.args.self.now.header.now in
    let s : c.heap_start-theap.result ≡ theap_in (main_of h) (value_at h (record_for h "THEAP")) (record_for h "THEAP") = cc in
    rw (c.in_ok-read.ensures.columns.0, s, c.size-tfields.ensures, c.size-naxis1.ensures, c.size-naxis2.ensures, c.size-pcount.ensures)
