-- A file parted into its header and its data.
-- Assumes nothing.
use Prim.Native.Nat.{ℕ, ◌+◌, ◌≤◌}
use mathlib.Core.Path.{◌≡◌, sym, ◌∙◌, ap}
use mathlib.Core.List.{List}
use native.Mathlib.Omega.{arith}
use lib.ListN.{length, length-append}
use Rattle.std.proofs.lemmas.List.{take-append-drop}
use Rattle.ascii.proofs.Cases.{by_test}
use Rattle.header.specs.Records.{records, has_end, header_len, header_of, data_of}

-- the header lies within the file
pub header_inside : (f : List ℕ) → header_len f ≤ length f
unfolding header_len
header_inside f = by_test (λ (n : ℕ). n ≤ length f) (has_end (records f)) (λ e. omega arith) (λ e. omega arith)

-- the two are as long as the file
pub parted_length : (f : List ℕ) → length (header_of f) + length (data_of f) ≡ length f
parted_length f = sym (length-append (header_of f) (data_of f)) ∙ ap length (take-append-drop (header_len f) f)
