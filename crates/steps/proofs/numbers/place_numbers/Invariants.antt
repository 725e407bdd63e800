-- The loop of `place_numbers`: the parts that the iterator has yet to give are all numbers, and the list with these
-- stored in it is the list asked for.
use Rattle.std.proofs.Common.{◌≡◌, true}
use Rattle.steps.specs.Split.{parts}
use Rattle.steps.specs.Numbers.{numbers, are_numbers}
use Rattle.steps.specs.Line.{choose_by, indexes_of, in_places}
use Rattle.steps.proofs.Lines.{parts_left}
use Rattle.steps.proofs.numbers.place_numbers.Given as goal

abbrev pub invariant-loop-part : goal.invariant-loop-part
invariant-loop-part l =
    (are_numbers (numbers (parts_left l.part-iterator)) ≡ true)
    × (in_places l.list (indexes_of (choose_by (numbers (parts_left l.part-iterator))))
    ≡ in_places l.fn.list (indexes_of (choose_by (numbers (parts l.fn.text)))))
