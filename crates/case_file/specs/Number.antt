-- The numbers of a file of cases.
use Rattle.std.specs.Prelude.{ℕ, List, take}
use Rattle.std.specs.Int.{w32, from_be_bytes}

-- The number that the first four bytes say, high byte first.
abbrev pub front_number : List ℕ → ℕ
front_number bytes = from_be_bytes w32 (take 4 bytes)
