-- `of_page` meets its contract: what is printed goes by the call's reply.
use Rattle.std.proofs.Common.{◌≡◌, length, take, sym, ap, ◌∙◌}
use Rattle.ascii.specs.Buffer.{put_in}
use Rattle.refusal.specs.declared.Refusal.{Refusal}
use Rattle.refusal.specs.Refusal.{number_of, place_of}
use Rattle.refusal.proofs.Decided.{cause_back}
use Rattle.listing.specs.Lines.{refused_line}
use Rattle.subcommand.specs.Arguments.{sought_by}
use Rattle.subcommand.specs.Message.{page_words, refused_text}
use Rattle.subcommand.specs.Printed.{Printed, done, page_made}
use Rattle.subcommand.proofs.Paged.{page_done, page_not}
use Rattle.subcommand.proofs.answers.of_page.Goals as goal
use Rattle.subcommand.proofs.answers.of_page.Goals.{After-nothing, After-page_refused}

-- what is printed of a page
abbrev made : After-nothing → Printed
made c = page_made (sought_by c.args.column) c.args.row c.args.edition c.args.layout c.args.file.now

wrote : (c : After-nothing)
    → (done (take c.in-Ok.len c.put_profile.new.out) ≡ made c) × (c.in-Ok.len ≡ length (made c).out)
    × (c.put_profile.new.out ≡ put_in c.args.out.now 0 (made c).out)
wrote c =
    let a = c.args in
    let e = c.in-Ok.ensures in
    let s = c.split_file.ensures in
    let found = c.find_column-found.ensures in
    rw (sym s.header, sym found)
    (page_done a.layout a.file.now c.find_column-found.result a.row a.edition c.in-Ok.len a.out.now
    c.put_profile.new.out
    c.told-out (rw (sym s.data) e.reply) (rw (sym s.data) e.buffer))

pub returns-in-Ok-clause-printed : goal.returns-in-Ok-clause-printed
returns-in-Ok-clause-printed c = rw c.nothing.ensures (wrote c).0

pub returns-in-Ok-clause-len : goal.returns-in-Ok-clause-len
returns-in-Ok-clause-len c = (wrote c).1

pub returns-in-Ok-clause-buffer : goal.returns-in-Ok-clause-buffer
returns-in-Ok-clause-buffer c = (wrote c).2

pub returns-in-Err-clause-printed : goal.returns-in-Err-clause-printed
returns-in-Err-clause-printed c =
    let a = c.args in
    let s = c.split_file.ensures in
    let r = c.in-Err.refusal in
    let found = c.find_column-found in
    let said : Refusal → Printed = λ (x : Refusal). record {
      out = refused_line (number_of r) (place_of r);
      err = refused_text x (page_words a.layout a.file.now found.result a.edition x);
      status = 1;
    } in
    rw (c.put_refusal.ensures.text, c.page_refused.ensures)
    (ap said (sym (cause_back r))
    ∙ rw (sym s.header, sym found.ensures)
    (page_not a.layout a.file.now found.result a.row a.edition (number_of r) (place_of r)
    (rw (sym s.data) c.in-Err.ensures.reply)))
