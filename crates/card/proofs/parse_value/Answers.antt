-- `parse_value` meets its contract: the record's field starts at byte 11.
use Rattle.std.proofs.Common.{sym, ◌∙◌, arith}
use Rattle.card.proofs.Values.{field_is}
use Rattle.card.proofs.parse_value.Goals as goal

pub overflow_mul-number : goal.overflow_mul-number
overflow_mul-number c =
    let f = field_is c.args.header.now c.args.number c.in_ok-field.field.now c.in_ok-field.ensures in
    omega (arith, f.inside)

pub overflow_add-number : goal.overflow_add-number
overflow_add-number c =
    let f = field_is c.args.header.now c.args.number c.in_ok-field.field.now c.in_ok-field.ensures in
    omega (arith, f.inside)

pub field_value-requires : goal.field_value-requires
field_value-requires c =
    let f = field_is c.args.header.now c.args.number c.in_ok-field.field.now c.in_ok-field.ensures in
    omega (arith, f.inside, f.long)

pub returns : goal.returns
returns c = c.field_value.ensures ∙ sym (field_is c.args.header.now c.args.number c.in_ok-field.field.now c.in_ok-field.ensures).is
