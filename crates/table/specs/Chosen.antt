-- The iterator over the chosen columns of a table.
-- Assumes nothing.
use Rattle.std.specs.Prelude.{ℕ, suc, ◌≡◌, ◌≤◌, ◌<◌, Option, Some, None}
use Rattle.table.specs.declared.pass.Chosen.{Chosen}
use Rattle.table.specs.Scan.{next_chosen}

-- all of them are still to come
abbrev pub all_chosen : ℕ → ℕ → Chosen
all_chosen choice n = record { choice = choice; tfields = n; next = 0 }

-- a call of `next`: the next chosen column, after which the later ones are left, or none
abbrev pub NextChosen : Chosen → Option ℕ → Chosen → Type 0
NextChosen s (Some c) t = (c ≡ next_chosen s.choice s.next) × (c < s.tfields) × (t ≡ record { choice = s.choice; tfields = s.tfields; next = suc c })
NextChosen s None t = (s.tfields ≤ next_chosen s.choice s.next) × (t ≡ s)
