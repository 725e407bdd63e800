-- `put_named` meets its contract: the three texts, each after the one before, are one text.
use Rattle.std.proofs.Common.{[], ◌∷◌, ◌++◌, length-append, arith}
use Rattle.ascii.proofs.Chain.{fitted, joined, room}
use Rattle.listing.proofs.lines.put_named.Goals as goal

pub returns : goal.returns
returns c =
    let a = c.args in
    let t = a.name.now ++ (10 ∷ []) in
    let p = c.put-next in
    let q = c.put-feed in
    let r = c.put in
    let start = fitted a.out.now a.at a.start.now (omega arith) (p.ensures.place, p.ensures.buffer) in
    let name = fitted p.new.out p.result a.name.now (omega (arith, start.0, p.auto.out)) (q.ensures.place, q.ensures.buffer) in
    let feed = fitted q.new.out q.result (10 ∷ []) (omega (arith, start.0, p.auto.out, name.0, q.auto.out)) (r.ensures.place, r.ensures.buffer) in
    let s =
    room a.out.now a.at (a.start.now ++ t) (simp length-append (omega arith))
    (joined a.out.now a.at a.start.now t (omega (arith, start.0, name.0, feed.0)) start
    (joined p.new.out p.result a.name.now (10 ∷ []) (omega (arith, start.0, p.auto.out, name.0, feed.0)) name feed)) in
    record { to = s.0; buffer = s.1 }
