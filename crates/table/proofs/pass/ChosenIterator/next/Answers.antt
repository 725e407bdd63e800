-- `next` meets its contract: each column is further on than the one before.
use Rattle.std.proofs.Common.{arith}
use Rattle.table.proofs.ToNext.{next_later}
use Rattle.table.proofs.pass.ChosenIterator.next.Goals as goal

pub returns-clause-goes : goal.returns-clause-goes
returns-clause-goes c =
    let later = next_later c.args.self.now.choice c.args.self.now.next _ c.next_chosen-c.ensures in
    record {
      on = λ _. (tt, tt, omega arith);
      keeps = tt;
      rests = λ _. tt;
    }
