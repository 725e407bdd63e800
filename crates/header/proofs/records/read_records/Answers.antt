-- `read_records` meets its contract: each record before END is noted in the arrays, which END and the end of the header leave as the index.
use Rattle.std.proofs.Common.{◌≡◌, ℕ, ◌+◌, ◌<◌, ◌/◌, false, List, length, sym, ◌∙◌, ap, arith, Option, Some}
use Rattle.std.specs.Option.{option_or}
use Rattle.card.specs.Record.{card_at, is_end}
use Rattle.keyword.specs.Names.{single, once_roots, other_roots, slot_names, once_names, position}
use Rattle.keyword.proofs.Position.{position_at}
use Rattle.keyword.proofs.Slots.{slots_length, once_length}
use Rattle.refusal.specs.Refusal.{outcome_of}
use Rattle.header.specs.Records.{records}
use Rattle.header.proofs.Ends.{record_count, record_at, Open, open_none, open_next}
use Rattle.header.proofs.Indexed.{indexed_empty, empty_index, length_seen, length_index}
use Rattle.header.proofs.Lengths.{length_small}
use Rattle.header.proofs.Pass.{none_check, none_read, over, pass_next, end_check, end_index}
use Rattle.header.proofs.records.read_records.Goals as goal

-- a place that was found lies within the list
within : {m : ℕ} (us : List (List ℕ)) (n : List ℕ) {p : Option ℕ} → m ≡ length us → p ≡ position n us → (s : ℕ) → p ≡ Some s → s < m
within us n e q s r = rw e (position_at n us s (sym q ∙ r)).0

-- one record more that is not END
opened : (h : List ℕ) (k : ℕ) → Open (records h) k → k < length h / 80 → is_end (card_at h k) ≡ false → Open (records h) (k + 1)
opened h k o p e = open_next (records h) k o (omega (arith, record_count h)) (ap is_end (record_at h k p) ∙ e)

pub loop-k-init : goal.loop-k-init
unfolding single once_roots other_roots
loop-k-init c = (open_none _, rw (once_length, slots_length) at indexed_empty)

pub returns-then-is_end-clause-check : goal.returns-then-is_end-clause-check
returns-then-is_end-clause-check c =
    let i = c.loop-k.invariant in
    c.check_of.ensures
    ∙ end_check c.args.header.now c.loop-k.k c.loop-k-test.true _ _ _ i.1 c.requires i.0 (sym c.if-is_end.ensures)

pub returns-then-is_end-clause-index : goal.returns-then-is_end-clause-index
returns-then-is_end-clause-index c =
    let i = c.loop-k.invariant in
    end_index c.args.header.now c.loop-k.k c.loop-k-test.true _ _ _ i.1 c.requires i.0 (sym c.if-is_end.ensures)

pub overflow_cast-number : goal.overflow_cast-number
overflow_cast-number c = omega (arith, length_small c.args.header.now c.requires, c.loop-k-test.true)

pub note-requires : goal.note-requires
note-requires c = within slot_names _ (length_index c.loop-k.invariant.1) c.locate-places.ensures.slot

pub see-earlier-requires : goal.see-earlier-requires
see-earlier-requires c = within once_names _ (length_seen c.loop-k.invariant.1) c.locate-places.ensures.once

pub loop-k-preserved : goal.loop-k-preserved
loop-k-preserved c =
    let h = c.args.header.now in
    let k = c.loop-k.k in
    let p = c.loop-k-test.true in
    let i = c.loop-k.invariant in
    let once = c.locate-places.ensures.once ∙ ap (λ (n : List ℕ). position n once_names) c.name.ensures in
    let slot = c.locate-places.ensures.slot ∙ ap (λ (n : List ℕ). position n slot_names) c.name.ensures in (
      opened h k i.0 p (sym c.if-is_end.ensures),
      pass_next h k p _ _ _ i.1 _ _ once slot _ c.see-earlier.ensures.earlier _ _ _
          c.see-earlier.ensures.seen c.note.ensures
          (c.or-repeated.ensures ∙ ap (option_or c.loop-k.repeated) c.and.ensures),
    )

pub returns-clause-check : goal.returns-clause-check
returns-clause-check c =
    let h = c.args.header.now in
    let e = over h c.loop-k.k c.loop-k.invariant.0 c.loop-k-test.false in
    ap outcome_of c.refused.ensures.0 ∙ none_check h c.requires e

pub returns-clause-index : goal.returns-clause-index
returns-clause-index c =
    let h = c.args.header.now in
    let e = over h c.loop-k.k c.loop-k.invariant.0 c.loop-k-test.false in
    c.refused.ensures.1 ∙ empty_index h (none_read h c.requires e)
