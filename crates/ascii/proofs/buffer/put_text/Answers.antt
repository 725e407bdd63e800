-- `put_text` meets its contract: by the test of room.
use Rattle.std.proofs.Common.{sym}
use borrow.Author.Tests.{leb-true, leb-false}
use Rattle.ascii.proofs.Chain.{room, no_room}
use Rattle.ascii.proofs.buffer.put_text.Goals as goal

pub returns-then-has_room : goal.returns-then-has_room
returns-then-has_room c =
    let a = c.args in
    let fits = leb-true _ _ (sym c.if-has_room.ensures) in
    let t = room a.out.now a.at a.text.now fits (c.copy.ensures.place, c.copy.ensures.buffer) in
    record { to = t.0; buffer = t.1 }

pub returns : goal.returns
returns c =
    let t = no_room c.args.out.now c.args.at c.args.text.now (leb-false _ _ (sym c.if-has_room.ensures)) in
    record { to = t.0; buffer = t.1 }
