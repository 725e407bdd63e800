-- What the turning block by block keeps: only the crate's private functions cite it.
-- Assumes nothing.
use Rattle.std.specs.Prelude.{ℕ, ◌≡◌, ◌+◌, ◌*◌, ◌≤◌, ◌<◌, List, length, get_or}
use Rattle.turn.specs.declared.blocks.Table.{Table}
use Rattle.turn.specs.declared.blocks.Block.{Block}

-- byte p of row r of a table
abbrev pub byte_at : Table → ℕ → ℕ → ℕ
byte_at t r p = get_or t.bytes.now (r * t.width + p) 0

-- a block has a row and lies within the table, whose bytes are all there
pub record IsBlock (t : Table) (b : Block) : Type 0 where
  pub inside : t.rows * t.width ≤ length t.bytes.now
  pub some : 0 < b.rows
  pub rows : b.first_row + b.rows ≤ t.rows
  pub places : b.first_place + b.places ≤ t.width

-- `source` has a block's bytes, each row `stride` bytes after the one before
abbrev pub Holds : Table → Block → ℕ → List ℕ → Type 0
Holds t b stride source =
    (r p : ℕ) → r < b.rows → p < b.places
    → (r * stride + p < length source)
    × (get_or source (r * stride + p) 0 ≡ byte_at t (b.first_row + r) (b.first_place + p))

-- byte p of row r stands where it goes
abbrev pub InPlace : Table → List ℕ → ℕ → ℕ → Type 0
InPlace t to r p = get_or to (p * t.rows + r) 0 ≡ byte_at t r p

-- so do all bytes of the rows from r up to s at the places from p up to q
abbrev pub Placed : Table → ℕ → ℕ → ℕ → ℕ → List ℕ → Type 0
Placed t r s p q to = (i j : ℕ) → r ≤ i → i < s → p ≤ j → j < q → InPlace t to i j

-- each byte of the table that stood where it goes still does
abbrev pub Kept : Table → List ℕ → List ℕ → Type 0
Kept t old new = (r p : ℕ) → r < t.rows → p < t.width → InPlace t old r p → InPlace t new r p
