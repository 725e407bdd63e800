-- `put_differ` meets its contract: one case that differs, or several.
use Rattle.std.proofs.Common.{append_assoc, arith}
use borrow.Author.Tests.{ne_eqb}
use Rattle.ascii.specs.Text.{bytes}
use Rattle.cases.specs.Report.{differ_text}
use Rattle.cases.proofs.report.put_differ.Goals as goal

pub returns-in-Some-clause-text : goal.returns-in-Some-clause-text
unfolding bytes differ_text
returns-in-Some-clause-text c =
    rw (c.put_number.ensures.text (omega arith), c.put-in-Some.ensures.text (omega arith), c.in-Some.is, c.if-tally-eq1.true)
    (simp append_assoc)

pub returns-in-Some-2-clause-text : goal.returns-in-Some-2-clause-text
unfolding bytes differ_text
returns-in-Some-2-clause-text c =
    rw (c.put-in-Some-2-2.ensures.text (omega arith), c.put_number-in-Some-2.ensures.text (omega arith), c.put-in-Some-2.ensures.text (omega arith))
    (rw (c.in-Some-2.is, ne_eqb _ 1 c.if-tally-eq1.false) (simp append_assoc))
