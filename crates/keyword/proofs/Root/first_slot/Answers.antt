-- `first_slot` meets its contract: the names of a root have the slots that follow one another.
use Rattle.std.proofs.Common.{◌≡◌, ◌+◌, ◌*◌, ◌≤◌, ◌<◌, ◌++◌, [], ℕ, length, get_or, arith}
use Rattle.keyword.specs.declared.Root.{Root}
use Rattle.keyword.specs.declared.Root.TheVariants as R
use Rattle.keyword.specs.contracts.Root.{the_type}
use denote.Enum.Declared.{tag_of}
use Rattle.keyword.specs.Names.{column_slots, numeral, once_roots, other_roots, single, slot_names, root_text}
use Rattle.keyword.proofs.Slots.{rooted_name, slots_length}
use Rattle.keyword.proofs.Root.first_slot.Goals as goal

named : (r : Root) (k : ℕ) → k < column_slots → get_or slot_names (9 + tag_of the_type r * column_slots + k) [] ≡ root_text r ++ numeral (k + 1)
unfolding once_roots other_roots
named R.Tform k h = rooted_name 0 k (omega arith) h
named R.Ttype k h = rooted_name 1 k (omega arith) h
named R.Tscal k h = rooted_name 2 k (omega arith) h
named R.Tzero k h = rooted_name 3 k (omega arith) h
named R.Tnull k h = rooted_name 4 k (omega arith) h

inside : (r : Root) → 9 + tag_of the_type r * column_slots + column_slots ≤ length slot_names
unfolding single once_roots other_roots
inside R.Tform = omega (arith, slots_length)
inside R.Ttype = omega (arith, slots_length)
inside R.Tscal = omega (arith, slots_length)
inside R.Tzero = omega (arith, slots_length)
inside R.Tnull = omega (arith, slots_length)

pub returns-clause-names : goal.returns-clause-names
returns-clause-names c = named c.args.self

pub returns-clause-inside : goal.returns-clause-inside
returns-clause-inside c = inside c.args.self
