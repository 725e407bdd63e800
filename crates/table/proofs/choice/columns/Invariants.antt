-- The choice so far is that of the wanted columns from c on, and has a bit for each of them at most.
use Rattle.std.proofs.Common.{ℕ, Bool, ◌≡◌, ◌≤◌, ◌<◌, ◌-◌, ◌^◌}
use Rattle.walk.specs.Step.{Selection, wanted, choice_from}
use Rattle.table.proofs.choice.columns.Given as goal

abbrev pub invariant-loop-c : goal.invariant-loop-c
invariant-loop-c g l =
    record {
      within : l.c ≤ l.tfields;
      room : l.choice < 2 ^ (l.tfields - l.c);
      so_far : (s : Selection) → ((c : ℕ) → (is : Bool) → c < 64 → g.F.Fn.post l.fn.wanted (c, tt) is → is ≡ wanted s c) → l.choice ≡ choice_from s l.c (l.tfields - l.c);
    }
