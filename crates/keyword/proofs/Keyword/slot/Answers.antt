-- `slot` meets its contract: each name has the slot of its place in the list.
use Rattle.std.proofs.Common.{◌≡◌, ◌<◌, [], length, get_or, arith}
use Rattle.keyword.specs.declared.Keyword.{Keyword}
use Rattle.keyword.specs.declared.Keyword.TheVariants as K
use Rattle.keyword.specs.contracts.Keyword.{the_type}
use denote.Enum.Declared.{tag_of}
use Rattle.keyword.specs.Names.{single, slot_names, text_of}
use Rattle.keyword.proofs.Slots.{single_name, slots_length}
use Rattle.keyword.proofs.Keyword.slot.Goals as goal

named : (k : Keyword) → get_or slot_names (tag_of the_type k) [] ≡ text_of k
unfolding single
named K.Xtension = single_name 0 (omega arith)
named K.Bitpix = single_name 1 (omega arith)
named K.Naxis = single_name 2 (omega arith)
named K.Naxis1 = single_name 3 (omega arith)
named K.Naxis2 = single_name 4 (omega arith)
named K.Pcount = single_name 5 (omega arith)
named K.Gcount = single_name 6 (omega arith)
named K.Tfields = single_name 7 (omega arith)
named K.Theap = single_name 8 (omega arith)

inside : (k : Keyword) → tag_of the_type k < length single
unfolding single
inside K.Xtension = omega arith
inside K.Bitpix = omega arith
inside K.Naxis = omega arith
inside K.Naxis1 = omega arith
inside K.Naxis2 = omega arith
inside K.Pcount = omega arith
inside K.Gcount = omega arith
inside K.Tfields = omega arith
inside K.Theap = omega arith

pub returns-clause-name : goal.returns-clause-name
returns-clause-name c = named c.args.self

pub returns-clause-inside : goal.returns-clause-inside
returns-clause-inside c = omega (arith, inside c.args.self, slots_length)
