-- `copy_turned` meets its contract: all bytes of the rows are where they go, and what follows them is copied.
use Rattle.std.proofs.Common.{ℕ, ◌≡◌, ◌+◌, ◌-◌, ◌*◌, ◌<◌, ◌≤◌, List, ◌++◌, length, get_or, take, drop}
use Rattle.std.proofs.Common.{refl, ◌∙◌, arith, length-append, length-drop}
use Rattle.std.proofs.lemmas.List.{append-nil, length-take-le, take_all, drop_all, drop_at, get_or-take}
use Rattle.std.proofs.lemmas.List.{get_or_append_left}
use Rattle.std.proofs.lemmas.Nat.{mul-add-lt}
use borrow.Rule.Slice.PartMut.{put_mid}
use Rattle.turn.proofs.Turned.{turned_is}
use Rattle.turn.proofs.blocks.copy_turned.Goals as goal

module _ (from to : List ℕ) (main : ℕ) (inside : main ≤ length from) (same : length to ≡ length from) where
  abbrev copied : List ℕ
  copied = take main to ++ drop main from

  front : length (take main to) ≡ main
  front = length-take-le main to (omega arith)

  tail_copied : (ys : List ℕ) → ys ≡ take (length from - main) (drop main from)
      → put_mid main (length to - main) to ys ≡ copied
  tail_copied ys e =
      let n : ℕ = length from - main in
      let y : ys ≡ drop main from = e ∙ take_all n (drop main from) (omega (arith, length-drop main from)) in
      let z = drop_all (length to - main) (drop main to) (omega (arith, length-drop main to)) in
      rw (y, z, append-nil (drop main from)) refl

  length_copied : length copied ≡ length from
  length_copied = length-append (take main to) (drop main from) ∙ omega (arith, front, length-drop main from)

  drop_copied : drop main copied ≡ drop main from
  drop_copied = drop_at (take main to) (drop main from) main front

  front_copied : (i : ℕ) → i < main → get_or copied i 0 ≡ get_or to i 0
  front_copied i h =
      get_or_append_left (take main to) (drop main from) 0 i (omega (arith, front)) ∙ get_or-take main to i 0 h

pub returns : goal.returns
returns c =
    let rows = c.args.rows in
    let width = c.args.width in
    let from = c.args.from.now in
    let to = c.turn_rows.new.to in
    let main : ℕ = rows * width in
    let inside = c.requires.inside in
    let same : length to ≡ length from = omega arith in
    tail_copied from to main inside same c.copy_from_slice.new.self c.copy_from_slice.ensures.after
    ∙ turned_is rows width from inside (copied from to main inside same) (length_copied from to main inside same)
    (λ r p hr hp.
    front_copied from to main inside same (p * rows + r) (omega (arith, mul-add-lt p rows r width hp hr))
    ∙ c.turn_rows.ensures r p (omega arith) hr (omega arith) hp)
    (drop_copied from to main inside same)
