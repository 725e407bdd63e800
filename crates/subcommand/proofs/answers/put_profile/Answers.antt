-- `put_profile` meets its contract: the buffer is as long as a page may be.
use Rattle.std.proofs.Common.{◌∙◌}
use Rattle.subcommand.proofs.Paged.{sought_left}
use Rattle.subcommand.proofs.answers.put_profile.Goals as goal

pub returns-in-Some-clause-buffer : goal.returns-in-Some-clause-buffer
returns-in-Some-clause-buffer c =
    let a = c.args in
    c.put_page.ensures.page
    ∙ rw c.in-Some.is (sought_left a.layout a.area.now c.in-Some.c a.row a.edition a.out.now c.told-out)
