-- `chosen` meets its contract: the definition reads the same bit, and a choice has 64 bits.
use Rattle.std.proofs.Common.{sym, ◌∙◌, arith, refl}
use native.Mathlib.Nat.{lt_of_lt_of_le}
use lib.Pow.{pow_mono}
use borrow.Author.Tests.{le-ltb}
use Rattle.walk.specs.Plain.{chosen}
use Rattle.walk.proofs.Choice.{unchosen}
use Rattle.table.proofs.choice.chosen.Goals as goal

pub returns-then-c-lt-TFIELDS_LIMIT : goal.returns-then-c-lt-TFIELDS_LIMIT
unfolding chosen
returns-then-c-lt-TFIELDS_LIMIT c = refl

pub returns-else-c-lt-TFIELDS_LIMIT : goal.returns-else-c-lt-TFIELDS_LIMIT
returns-else-c-lt-TFIELDS_LIMIT c =
    le-ltb c.args.c 64 c.if-c-lt-TFIELDS_LIMIT.false
    ∙ sym
    (unchosen c.args.choice c.args.c (lt_of_lt_of_le c.ranges.choice.fits (pow_mono {i = 64} {j = c.args.c} (omega arith))))
