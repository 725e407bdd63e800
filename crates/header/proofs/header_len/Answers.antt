-- `header_len` meets its contract: the header ends with the block of the first record that is END.
use Rattle.std.proofs.Common.{◌≡◌, true, false, rules, tests}
use Rattle.std.proofs.lemmas.Iterator.{first_from_Range}
use Rattle.card.specs.Record.{card_at, is_end}
use Rattle.header.proofs.Ends.{len_by_first}
use Rattle.header.proofs.header_len.Goals as goal

pub returns : goal.returns
returns c =
    let f = c.args.file.now in
    len_by_first f c.find.result c.map_or.result _ (λ k e. search (rules, tests))
    (first_from_Range _ _ _ _ (λ k. is_end (card_at f k) ≡ true) (λ k. is_end (card_at f k) ≡ false) c.find.ensures.ran
    (λ x q k. search (rules, tests)) (λ x q k. search (rules, tests)))
    c.map_or.ensures
