-- One turn of the loops over a block: a row that is copied to the tile, the bytes of a place that are written, and one
-- byte of a row that is scattered.
-- Assumes nothing.
use Rattle.std.proofs.Common.{ℕ, suc, ◌≡◌, ◌+◌, ◌-◌, ◌*◌, ◌<◌, ◌≤◌, List, [], ◌∷◌, length, get_or, set}
use Rattle.std.proofs.Common.{refl, ◌∙◌, ⊎_elim, arith}
use Rattle.std.proofs.lemmas.Bool.{cases_lt}
use Rattle.std.proofs.lemmas.List.{set_split, drop-drop}
use Rattle.std.proofs.lemmas.Nat.{same_from_place}
use Rattle.std.proofs.Math.Nat.{mul-le-mul_right}
use borrow.Rule.Slice.PartMut.{put_mid}
use Rattle.turn.specs.declared.blocks.Block.{Block}
use Rattle.turn.specs.declared.blocks.Table.{Table}
use Rattle.turn.specs.Blocks.{byte_at, Holds, Placed, Kept}
use Rattle.turn.proofs.Part.{length_written, before_part, in_part, each_part}

-- k places from the i-th of row q on end within w rows of n places
pub part_fits : (q w n i k : ℕ) → q < w → i + k ≤ n → q * n + i + k ≤ w * n
part_fits q w n i k h fits = omega (arith, mul-le-mul_right n h)

-- ys, the bytes of the block's row m, go behind those of the rows before it
module _ (t : Table) (b : Block) (stride : ℕ) (old ys : List ℕ) (m n : ℕ) (size : n ≡ b.places) (narrow : n ≤ stride)
    (room : m * stride + n ≤ length old) (len : length ys ≡ n)
    (bytes : (p : ℕ) → p < n → get_or ys p 0 ≡ byte_at t (b.first_row + m) (b.first_place + p)) where
  pub loaded : Holds t (record b { rows = m }) stride old
      → Holds t (record b { rows = m + 1 }) stride (put_mid (m * stride) n old ys)
  loaded held r p hr hp =
      ⊎_elim
      (λ (l : r < m).
      let h = held r p l hp in
      let before : r * stride + p < m * stride = omega (arith, mul-le-mul_right stride l) in (
        omega (arith, h.0, length_written old ys (m * stride) n room len),
        before_part old ys (m * stride) n room len (r * stride + p) before ∙ h.1,
      ))
      (λ (g : m ≤ r).
      let e : r ≡ m = omega arith in
      let q : p < n = omega arith in
      rw e (
        omega (arith, length_written old ys (m * stride) n room len),
        in_part old ys (m * stride) n room len p q ∙ bytes p q,
      ))
      (cases_lt r m)

-- ys, the bytes of n rows from `row` on at a place, go where they go: what is right stays, and they are right
module _ (t : Table) (old ys : List ℕ) (row n m place : ℕ) (size : m ≡ n)
    (rows : row + n ≤ t.rows) (inside : place < t.width) (room : t.rows * t.width ≤ length old)
    (len : length ys ≡ n) (bytes : (k : ℕ) → k < n → get_or ys k 0 ≡ byte_at t (row + k) place) where
  abbrev at : ℕ
  at = place * t.rows + row

  fits : at + m ≤ length old
  fits = omega (arith, part_fits place t.width t.rows row n inside rows)

  stored_kept : (start : List ℕ) → Kept t start old → Kept t start (put_mid at m old ys)
  stored_kept start kept r p hr hp was =
      each_part old ys at m fits (omega arith) (λ b. b ≡ byte_at t r p) (p * t.rows + r) (kept r p hr hp was) new
    where
      new : (k : ℕ) → k < m → p * t.rows + r ≡ at + k → get_or ys k 0 ≡ byte_at t r p
      new k h e =
          let s = same_from_place p r place (row + k) t.rows hr (omega arith) (omega arith) in
          bytes k (omega arith) ∙ rw (s.0, s.1) refl

  stored_placed : (first end : ℕ) → end ≡ place + 1 → Placed t row (row + n) first place old
      → Placed t row (row + n) first end (put_mid at m old ys)
  stored_placed first end e was i j i1 i2 j1 j2 =
      ⊎_elim
      (λ l. stored_kept old (λ r p hr hp h. h) i j (omega arith) (omega arith) (was i j i1 i2 j1 l))
      (λ (g : place ≤ j).
      let k : ℕ = i - row in
      let ei : i ≡ row + k = omega arith in
      let ej : j ≡ place = omega arith in
      let a : j * t.rows + i ≡ at + k = rw ej (omega arith) in
      rw a (in_part old ys at m fits (omega arith) k (omega arith) ∙ bytes k (omega arith) ∙ rw (← ei, ej) refl))
      (cases_lt j place)

  pub stored : (start : List ℕ) (first end : ℕ) → end ≡ place + 1
      → Kept t start old → Placed t row (row + n) first place old
      → Kept t start (put_mid at m old ys) × Placed t row (row + n) first end (put_mid at m old ys)
  stored start first end e kept placed = (stored_kept start kept, stored_placed first end e placed)

-- the byte of a row at a place goes where it goes
module _ (t : Table) (old : List ℕ) (row place : ℕ) (inside_row : row < t.rows) (inside : place < t.width)
    (room : t.rows * t.width ≤ length old) (start : List ℕ) (first : ℕ) where
  abbrev scattered : List ℕ
  scattered = set old (place * t.rows + row) (byte_at t row place)

  pub scatter_stored : Kept t start old → Placed t row (row + 1) first place old
      → Kept t start scattered × Placed t row (row + 1) first (place + 1) scattered
  scatter_stored kept placed =
      let b : ℕ = byte_at t row place in
      let at : ℕ = place * t.rows + row in
      let bytes : (k : ℕ) → k < 1 → get_or (b ∷ []) k 0 ≡ byte_at t (row + k) place =
      λ k h. let e : k ≡ 0 = omega arith in
      let f : row + 0 ≡ row = omega arith in
      rw (e, f) refl in
      let fits : at < length old = omega (arith, part_fits place t.width t.rows row 1 inside (omega arith)) in
      let n : suc at ≡ at + 1 = omega arith in
      let s = stored t old (b ∷ []) row 1 1 place refl (omega arith) inside room refl bytes
      start first (place + 1) refl kept placed in
      rw (set_split old at b fits, n, ← drop-drop 1 at old) s
