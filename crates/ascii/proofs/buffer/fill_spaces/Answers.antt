-- `fill_spaces` meets its contract: the spaces are in the place of as many bytes.
use Rattle.std.proofs.Common.{ℕ, replicate, sym, rules}
use lib.ListN.{length-replicate}
use Rattle.ascii.proofs.Lengths.{put_between}
use Rattle.ascii.proofs.buffer.fill_spaces.Goals as goal

pub returns : goal.returns
returns c =
    let a = c.args in
    put_between a.out.now a.at a.n (replicate {A = ℕ} a.n 32) c.fill.new.self (sym (length-replicate {A = ℕ} a.n 32)) (search rules)
