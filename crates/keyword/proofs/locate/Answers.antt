-- `locate` meets its contract: the first five bytes tell whether a root is in front, and the bytes after it which n.
use Rattle.std.proofs.Common.{◌≡◌, ℕ, ◌≤◌, List, length, take, sym, ap, ◌∙◌, Option, Some, None}
use mathlib.Core.List.{map}
use lib.Dec.{ltb}
use borrow.Author.Tests.{ltb-true, ltb-false}
use Rattle.ascii.proofs.Cases.{either, no_value}
use Rattle.ascii.proofs.Parts.{part_from}
use Rattle.keyword.specs.Names.{index_limit, roots, position, numeral, range}
use Rattle.keyword.proofs.Numerals.{index_below}
use Rattle.keyword.proofs.Parts.{short_name, single_slot, single_once, rooted_slot, rooted_once, none_once}
use Rattle.keyword.proofs.Position.{position_at}
use Rattle.keyword.proofs.locate.Goals as goal

-- the index that the bytes after the root are
abbrev index : List ℕ → Option ℕ
index s = position s (map numeral (range 1 index_limit))

-- a name that begins with a root is as long as one
long : (n : List ℕ) (r : ℕ) → position (take 5 n) roots ≡ Some r → 5 ≤ length n
long n r e =
    either (ltb (length n) 5)
    (λ t. let y : Some r ≡ None = sym e ∙ short_name n (ltb-true (length n) 5 t) in cc)
    (λ t. ltb-false (length n) 5 t)

pub slice_bounds-keyword_index-count : goal.slice_bounds-keyword_index-count
slice_bounds-keyword_index-count c = long c.args.name.now c.in-Some.r (sym c.in-Some.ensures)

pub slice_bounds-keyword_index-start : goal.slice_bounds-keyword_index-start
slice_bounds-keyword_index-start c = long c.args.name.now c.in-Some.r (sym c.in-Some.ensures)

pub returns-in_default-clause-slot : goal.returns-in_default-clause-slot
returns-in_default-clause-slot c =
    let e = sym c.root_of.ensures ∙ no_value _ c.in_default.not-Some in
    c.single_places.ensures.slot ∙ sym (single_slot c.args.name.now e)

pub returns-in_default-clause-once : goal.returns-in_default-clause-once
returns-in_default-clause-once c =
    let e = sym c.root_of.ensures ∙ no_value _ c.in_default.not-Some in
    c.single_places.ensures.once ∙ sym (single_once c.args.name.now e)

pub returns-in_default-keyword_index-clause-slot : goal.returns-in_default-keyword_index-clause-slot
returns-in_default-keyword_index-clause-slot c =
    let n = c.args.name.now in
    let d = ap index (sym (part_from n 5)) ∙ sym c.keyword_index.ensures ∙ no_value _ c.in_default-keyword_index.not-Some in
    sym (rw d at (rooted_slot n _ (sym c.in-Some.ensures)))

pub returns-in_default-keyword_index-clause-once : goal.returns-in_default-keyword_index-clause-once
returns-in_default-keyword_index-clause-once c =
    let n = c.args.name.now in
    let d = ap index (sym (part_from n 5)) ∙ sym c.keyword_index.ensures ∙ no_value _ c.in_default-keyword_index.not-Some in
    sym (none_once n _ (sym c.in-Some.ensures) d)

pub indexed_slot-requires : goal.indexed_slot-requires
indexed_slot-requires c =
    ((position_at _ roots _ (sym c.in-Some.ensures)).0, index_below _ _ (sym c.in-Some-keyword_index.ensures))

pub indexed_once-requires : goal.indexed_once-requires
indexed_once-requires c = index_below _ _ (sym c.in-Some-keyword_index.ensures)

pub returns-clause-slot : goal.returns-clause-slot
returns-clause-slot c =
    let n = c.args.name.now in
    let d = ap index (sym (part_from n 5)) ∙ sym c.in-Some-keyword_index.ensures in
    c.indexed_slot.ensures ∙ sym (rw d at (rooted_slot n _ (sym c.in-Some.ensures)))

pub returns-clause-once : goal.returns-clause-once
returns-clause-once c =
    let n = c.args.name.now in
    let d = ap index (sym (part_from n 5)) ∙ sym c.in-Some-keyword_index.ensures in
    c.indexed_once.ensures ∙ sym (rw d at (rooted_once n _ (sym c.in-Some.ensures)))
