-- `record_at` meets its contract: the 80 bytes from the record's place on, where there are so many.
use Rattle.std.proofs.Common.{ℕ, ◌-◌, length, take, drop, ap, ◌∙◌}
use Rattle.card.proofs.Records.{record_cut}
use Rattle.card.proofs.record_at.Goals as goal

pub returns : goal.returns
returns c =
    let h = c.args.header.now in
    let at = c.in_ok-start.ensures.1 in
    let part = c.in_ok-get.ensures.lookup.0 in
    record_cut h c.args.number c.in_ok-get.field-0.now c.first_chunk.result
    (part.2 ∙ ap (λ (n : ℕ). take (length h - n) (drop n h)) at)
    (rw at at part.3)
    c.first_chunk.ensures.cases
