-- Sums, word by word.
-- Assumes nothing.
use Rattle.std.specs.Prelude.{fold}
use Prim.Native.Nat.{ℕ, suc, ◌-◌, ◌+◌, ◌<◌, ◌≤◌}
use mathlib.Core.Path.{◌≡◌, refl, sym}
use mathlib.Core.List.{List, [], ◌∷◌, ◌++◌}
use native.Mathlib.Numerals.{add-one}
use native.Mathlib.Omega.{arith}
use Rattle.layout.specs.declared.BinTable.{BinTable}
use Rattle.cell.specs.declared.Cell.{Cell}
use Rattle.exports.specs.Checksum.{add_word, add_words, add_cell, add_cells, column_words, columns_words, layout_sum}

pub words_then : (s : ℕ) (vs ws : List ℕ) → add_words (add_words s vs) ws ≡ add_words s (vs ++ ws)
unfolding add_words
words_then s [] ws = refl
words_then s (v ∷ vs) ws = words_then (add_word s v) vs ws

-- as the library's fold says it
pub words_folded : (s : ℕ) (ws : List ℕ) → fold add_word s ws ≡ add_words s ws
unfolding add_words
words_folded s [] = refl
words_folded s (w ∷ ws) = words_folded (add_word s w) ws

pub cells_then : (s : ℕ) (cs ds : List Cell) → add_cells (add_cells s cs) ds ≡ add_cells s (cs ++ ds)
unfolding add_cells
cells_then s [] ds = refl
cells_then s (c ∷ cs) ds = cells_then (add_cell s c) cs ds

pub cells_folded : (s : ℕ) (cs : List Cell) → fold add_cell s cs ≡ add_cells s cs
unfolding add_cells
cells_folded s [] = refl
cells_folded s (c ∷ cs) = cells_folded (add_cell s c) cs

-- ---- a layout: the sum so far with the columns that are left, from column c on

abbrev pub rest_sum : List ℕ → BinTable → ℕ → ℕ → ℕ
rest_sum h l s c = add_words s (columns_words h l c (l.tfields - c))

module _ (h : List ℕ) (l : BinTable) where
  pub sizes_first : rest_sum h l (add_word (add_word (add_word (add_word
      (add_word 0 l.naxis1) l.naxis2) l.pcount) l.theap) l.tfields) 0 ≡ layout_sum h l
  unfolding add_words layout_sum
  sizes_first = let e : l.tfields - 0 ≡ l.tfields = omega arith in rw e

  pub column_next : (s c : ℕ) → c < l.tfields
      → rest_sum h l s c ≡ rest_sum h l (add_words s (column_words h l c)) (c + 1)
  unfolding columns_words
  column_next s c i =
      let e : l.tfields - c ≡ suc (l.tfields - suc c) = omega arith in
      rw (e, add-one c) (sym (words_then s (column_words h l c) (columns_words h l (suc c) (l.tfields - suc c))))

  pub columns_done : (s c : ℕ) → l.tfields ≤ c → rest_sum h l s c ≡ s
  unfolding add_words columns_words
  columns_done s c i = let e : l.tfields - c ≡ 0 = omega arith in rw e
