-- What `&s[n..]` holds.
-- Assumes nothing.
use mathlib.Core.Path.{◌≡◌}
use mathlib.Core.List.{List}
use Prim.Native.Nat.{ℕ, ◌-◌}
use native.Mathlib.Omega.{arith}
use lib.ListN.{length, take, drop, length-drop}
use lib.Seq.{take_all}

pub part_from : (s : List ℕ) (n : ℕ) → take (length s - n) (drop n s) ≡ drop n s
part_from s n = take_all (length s - n) (drop n s) (simp length-drop (omega arith))
