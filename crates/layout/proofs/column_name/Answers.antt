-- `column_name` meets its contract: there is no such column, or its name is the part of the header that its place says.
use Rattle.std.proofs.Common.{refl, rules, tests}
use Rattle.layout.proofs.Named.{name_read}
use Rattle.layout.proofs.column_name.Goals as goal

pub returns : goal.returns
returns c =
    rw c.unwrap_or.ensures
    (name_read c.args.header.now c.args.layout c.args.column c.get.result c.and_then.result _ refl
    (rw c.columns.ensures at c.get.ensures.lookup.3) c.and_then.ensures (λ x k. search (rules, tests)))
