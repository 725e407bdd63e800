-- `parse_wide` meets its contract: the field of a record that holds a value is read.
use Rattle.std.proofs.Common.{sym, ◌∙◌}
use Rattle.card.proofs.Values.{wide_is}
use Rattle.card.proofs.parse_wide.Goals as goal

pub returns : goal.returns
returns c = c.field_wide.ensures ∙ sym (wide_is c.args.header.now c.args.number c.in_ok-value_field.field-0.now c.in_ok-value_field.ensures)
