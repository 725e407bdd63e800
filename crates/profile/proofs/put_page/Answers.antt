-- `put_page` meets its contract: what passes the checks fits, and the page is its lines.
use Rattle.std.proofs.Common.{ℕ, ◌≡◌, ◌+◌, ◌*◌, ◌<◌, ◌≤◌, Bool, true, false, cond, List, Bor, length}
use Rattle.std.proofs.Common.{refl, sym, ap, ◌∙◌, arith, rules}
use Rattle.std.specs.Prelude.{Some, None, Err}
use Rattle.std.proofs.lemmas.Option.{cond_some}
use Rattle.ascii.specs.Buffer.{put_in}
use Rattle.ascii.specs.Text.{bytes}
use Rattle.refusal.specs.declared.Refusal.TheVariants.{Unsuitable}
use Rattle.tform.specs.Width.{among, letter_width}
use Rattle.layout.specs.declared.Column.{Column}
use Rattle.layout.specs.declared.BinTable.{BinTable}
use Rattle.layout.specs.Layout.{layout_ok}
use Rattle.layout.proofs.Sizes.{limits, data_bound}
use Rattle.walk.specs.Plain.{column_of}
use Rattle.walk.specs.Step.{fits}
use Rattle.walk.proofs.Inside.{fits_layout, field_in_main}
use Rattle.weight.specs.declared.Edition.{Edition}
use Rattle.profile.specs.Page.{profile_page, edition_of, page_column, reply_of, wrote, refused, page_reply, page_left}
use Rattle.profile.specs.Lines.{lines}
use Rattle.profile.proofs.Fits.{e_bytes, in_table, row_small, few_items}
use Rattle.profile.proofs.Calls.{page_bytes, Refusals, page_refusals, page_refused, page_put}
use Rattle.profile.proofs.put_page.Goals as goal
use Rattle.profile.proofs.put_page.Goals.{Start, In_ok-column}
use Rattle.profile.proofs.put_page.Goals.{After-from_residual, After-from_residual-in_err-column}

-- ---- the refusals, for the arguments of the call

module _ (c : Start) where
  refusals : let a = c.args in Refusals a.layout a.area.now a.column a.row a.edition (length a.page.now)
  refusals = page_refusals _ _ _ _ _ _

  kept : let a = c.args in
      (k p : ℕ) → page_reply a.layout a.area.now a.column a.row a.edition (length a.page.now) ≡ refused k p
      → a.page.now ≡ page_left a.layout a.area.now a.column a.row a.edition a.page.now
  kept k p e = sym (page_refused _ _ _ _ _ _ k p e)

edition_refused : (c : After-from_residual) → c.from_residual.result ≡ Err Unsuitable
edition_refused c = search rules

column_refused : (c : After-from_residual-in_err-column) → c.from_residual-in_err-column.result ≡ Err Unsuitable
column_refused c = search rules

column_missing : (t : Bool) (k : Column) → None ≡ cond t (Some k) None → t ≡ false
column_missing true k e = cc
column_missing false k e = refl

-- ---- what holds where there is a column

module _ (c : In_ok-column) where
  fitting : fits c.args.layout c.args.area.now ≡ true
  fitting = sym c.if-not-fits.ensures

  ok : layout_ok c.args.layout ≡ true
  ok = fits_layout c.args.layout c.args.area.now fitting

  edition : edition_of c.args.edition ≡ Some c.in_ok-edition.edition
  edition = sym c.edition_of.ensures ∙ c.in_ok-edition.ensures.ok_part

  found : let a = c.args in
      (page_column a.layout a.column ≡ true) × (column_of a.layout a.column ≡ c.in_ok-column.column)
  found = cond_some _ _ _ (sym c.find_page_column.ensures ∙ c.in_ok-column.ensures.ok_part)

  size : c.in_ok-column.column.count * 27 ≡ page_bytes c.args.layout c.args.column
  size = rw found.1 (omega arith)

  few : c.in_ok-column.column.count ≤ 262144
  few = rw (← found.1) (few_items c.args.layout ok c.args.column found.0)

  -- the field lies within the data
  ends : let l = c.args.layout in
      let k = c.in_ok-column.column in
      c.args.row < l.naxis2 → c.args.row * l.naxis1 + k.start + k.count * 4 ≤ 17594333528063
  ends h =
      let l = c.args.layout in
      let i : ℕ = c.args.column in
      let within = field_in_main l ok c.args.row i h (in_table l i found.0) in
      rw (← found.1) (omega (arith, within, e_bytes l i found.0, data_bound l ok))

page_lines : (l : BinTable) (a : Bor (List ℕ)) (c r : ℕ) (ed : Edition) (k : Column) → column_of l c ≡ k
    → lines (record { area = a; at = r * l.naxis1 + k.start; row = r }) ed k.count ≡ profile_page l a.now c r ed
unfolding profile_page letter_width among bytes
page_lines l a c r ed k e = rw (← e) refl

-- ---- the goals

pub returns-then-not-fits : goal.returns-then-not-fits
returns-then-not-fits c =
    let s = (goal.at.returns-then-not-fits c).Start in
    let e = (refusals s).mismatch (sym c.if-not-fits.ensures) in
    record { reply = sym e; page = kept s 10 0 e }

pub returns-in_err-edition : goal.returns-in_err-edition
returns-in_err-edition c =
    let s = (goal.at.returns-in_err-edition c).Start in
    let e = (refusals s).no_edition (sym c.if-not-fits.ensures)
    (sym c.edition_of.ensures ∙ c.in_err-edition.ensures.ok_part) in
    record { reply = ap reply_of (edition_refused c) ∙ sym e; page = kept s 15 0 e }

pub find_page_column-requires : goal.find_page_column-requires
find_page_column-requires c =
    (limits c.args.layout (fits_layout c.args.layout c.args.area.now (sym c.if-not-fits.ensures))).columns

pub returns-in_err-column : goal.returns-in_err-column
returns-in_err-column c =
    let s = (goal.at.returns-in_err-column c).Start in
    let e = (refusals s).no_column (sym c.if-not-fits.ensures)
    (column_missing _ _ (sym c.in_err-column.ensures.ok_part ∙ c.find_page_column.ensures)) in
    record { reply = ap reply_of (column_refused c) ∙ sym e; page = kept s 15 0 e }

pub returns-then-layout-row : goal.returns-then-layout-row
returns-then-layout-row c =
    let s = (goal.at.returns-then-layout-row c).Start in
    let k = (goal.at.returns-then-layout-row c).In_ok-column in
    let e = (refusals s).no_row c.in_ok-edition.edition (fitting k) (edition k) (found k).0 c.if-layout-row.true in
    record { reply = sym e; page = kept s 12 c.args.row e }

pub returns-then-page-needed : goal.returns-then-page-needed
returns-then-page-needed c =
    let s = (goal.at.returns-then-page-needed c).Start in
    let k = (goal.at.returns-then-page-needed c).In_ok-column in
    let e = (refusals s).short c.in_ok-edition.edition (fitting k) (edition k) (found k).0 c.if-layout-row.false
    (omega (arith, size k)) in
    record { reply = ap (refused 14) (size k) ∙ sym e; page = kept s 14 _ e }

pub overflow_mul-field : goal.overflow_mul-field
overflow_mul-field c = omega (arith, ends (goal.at.overflow_mul-field c).In_ok-column c.if-layout-row.false)

pub overflow_add-field : goal.overflow_add-field
overflow_add-field c = omega (arith, ends (goal.at.overflow_add-field c).In_ok-column c.if-layout-row.false)

pub put_lines-requires-clause-row : goal.put_lines-requires-clause-row
put_lines-requires-clause-row c =
    let k = (goal.at.put_lines-requires-clause-row c).In_ok-column in
    row_small c.args.layout (ok k) c.args.row c.if-layout-row.false

pub put_lines-requires-clause-few : goal.put_lines-requires-clause-few
put_lines-requires-clause-few c = omega (arith, few (goal.at.put_lines-requires-clause-few c).In_ok-column)

pub put_lines-requires-clause-at : goal.put_lines-requires-clause-at
put_lines-requires-clause-at c =
    omega (arith, ends (goal.at.put_lines-requires-clause-at c).In_ok-column c.if-layout-row.false)

pub returns : goal.returns
returns c =
    let a = c.args in
    let ed = c.in_ok-edition.edition in
    let k = (goal.at.returns c).In_ok-column in
    let w = (refusals (goal.at.returns c).Start).none ed (fitting k) (edition k) (found k).0 c.if-layout-row.false
    (omega (arith, size k)) in
    record {
      reply = ap wrote (size k) ∙ sym w;
      page = c.put_lines.ensures
          ∙ ap (put_in a.page.now 0) (page_lines a.layout a.area a.column a.row ed c.in_ok-column.column (found k).1)
          ∙ sym (page_put a.layout a.area.now a.column a.row a.edition a.page.now _ w ed (edition k));
    }
