-- `repeat_count` meets its contract: a number that is too large to be held is above every limit.
use Rattle.std.proofs.Common.{sym, ◌∙◌, arith}
use borrow.Author.Tests.{eqb-false}
use Rattle.ascii.specs.Text.{decimal}
use Rattle.ascii.proofs.Reading.{digits_whole, found_is, none_large}
use Rattle.tform.proofs.parsing.repeat_count.Goals as goal

pub returns-in-Some : goal.returns-in-Some
returns-in-Some c =
    let s = c.args.digits.now in
    let some = sym c.is_empty.ensures ∙ c.if-is_empty.false in
    let e = found_is (decimal 0 s) _ (c.in-Some.ensures ∙ digits_whole s (eqb-false _ _ some) c.requires) in
    rw some (omega (arith, c.capped.ensures, e))

pub returns-in-None : goal.returns-in-None
returns-in-None c =
    let s = c.args.digits.now in
    let some = sym c.is_empty.ensures ∙ c.if-is_empty.false in
    let h = none_large (decimal 0 s) (c.in-None.ensures ∙ digits_whole s (eqb-false _ _ some) c.requires) in
    rw some (omega (arith, h))
