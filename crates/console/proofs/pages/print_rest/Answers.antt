-- `print_rest` ends: a page that is not empty leaves fewer lines.
use Rattle.std.proofs.Common.{arith}
use Rattle.output.specs.State.{left_of}
use Rattle.output.specs.Page.{page_room}
use Rattle.output.proofs.Whole.{page_falls}
use Rattle.console.proofs.pages.print_rest.Goals as goal

pub loop-page-smaller : goal.loop-page-smaller
loop-page-smaller c =
    let s = c.args.source.now in let p = c.print_page-page in
    omega (arith, page_falls page_room (left_of s c.loop-page.current) (left_of s p.result.state) 1 p.result.len (omega arith) p.ensures.state p.ensures.len, c.if-page-eq0.false)
