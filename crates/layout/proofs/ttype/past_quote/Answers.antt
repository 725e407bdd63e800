-- `past_quote` meets its contract: by whether the byte is a quote, and another one follows.
use Rattle.std.proofs.Common.{ne_eqb, refl}
use Rattle.layout.proofs.Quotes.{undoubled_other, undoubled_past}
use Rattle.layout.proofs.ttype.past_quote.Goals as goal

pub returns-then-byte-ne39 : goal.returns-then-byte-ne39
returns-then-byte-ne39 c = undoubled_other c.args.byte c.args.after.now (ne_eqb _ _ c.if-byte-ne39.true)

pub returns : goal.returns
returns c =
    rw c.unwrap_or.ensures
    (undoubled_past c.args.byte c.args.after.now c.strip_prefix.result c.args.after refl c.if-byte-ne39.false c.strip_prefix.ensures.cases)
