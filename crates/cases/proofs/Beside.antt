-- A text beside the lines that are left to print, page by page.
-- Assumes nothing.
use Rattle.std.specs.Prelude.{is_some, Option, Some, None}
use Rattle.std.specs.Bool.{then_some}
use Prim.Native.Nat.{ℕ, ◌+◌, ◌-◌, ◌<◌, ◌≤◌}
use mathlib.Core.Path.{◌≡◌, refl, sym, ap, subst, ◌∙◌}
use mathlib.Core.Bool.{Bool, true, false}
use mathlib.Core.List.{List, [], ◌∷◌, ◌++◌}
use native.Mathlib.Omega.{arith}
use lib.Dec.{eqb}
use lib.ListN.{length, take, drop, take-append-drop, length-take}
use lib.Seq.{take-append_seam, length-take-le}
use borrow.Author.Tests.{ne_eqb}
use Rattle.ascii.specs.Text.{same}
use Rattle.ascii.specs.Buffer.{put_in}
use Rattle.ascii.proofs.Chain.{front}
use Rattle.ascii.proofs.Parts.{part_from}
use Rattle.ascii.proofs.Same.{same_true, same_false, same_not, same_root}
use Rattle.output.specs.Cells.{file_limit}
use Rattle.output.specs.Page.{page_room, lines_text, page_text, page_rest}
use Rattle.output.specs.declared.Page.{Page}
use Rattle.output.proofs.Whole.{page_whole, page_length, page_less}
use Rattle.cases.specs.Text.{begins_page, IsPage}

-- a page in its buffer: n is its length
module _ (out next : List ℕ) (lines : List (List ℕ)) (n : ℕ) (e : n ≡ length (page_text (length out) lines)) where
  pub page_fits : length next ≡ length out → n ≤ length next
  page_fits h = omega (arith, e, h, page_length (length out) lines)

  pub page_taken : length next ≡ length out → n ≡ length (take n next)
  page_taken h = sym (length-take-le n next (page_fits h))

  pub page_front : next ≡ put_in out 0 (page_text (length out) lines) → take n next ≡ page_text (length out) lines
  page_front h =
      front out (page_text (length out) lines) {p = n} (omega (arith, e, page_length (length out) lines))
      (omega (arith, e), h)

pub told : {A : Type 0} (b : Bool) (x : A) → is_some (then_some b x) ≡ b
told true x = refl
told false x = refl

module _ (x p : List ℕ) where
  begins_inside : same (take (length p) x) p ≡ true → length p ≤ length x
  begins_inside e = omega (arith, ap length (same_true (take (length p) x) p e), length-take (length p) x)

  same_after : (t : List ℕ) → same (take (length p) x) p ≡ true → same x (p ++ t) ≡ same (drop (length p) x) t
  same_after t e =
      ap (λ (y : List ℕ). same y (p ++ t)) (sym (take-append-drop (length p) x) ∙ ap (λ (y : List ℕ). y ++ drop (length p) x) (same_true (take (length p) x) p e))
      ∙ same_root p (drop (length p) x) t

  differs_within : (t : List ℕ) → same (take (length p) x) p ≡ false → same x (p ++ t) ≡ false
  differs_within t e =
      same_false x (p ++ t)
      (λ z. same_not (take (length p) x) p e (subst (λ (y : List ℕ). take (length p) y ≡ p) (sym z) (take-append_seam p t)))

-- a text x beside the lines ts, by what `compare_page` says of it, r its answer
module _ (x : List ℕ) (ts : List (List ℕ)) (r : Option Page) (b : is_some r ≡ begins_page x ts) where
  pub page_differs : r ≡ None → false ≡ same x (lines_text ts)
  page_differs e =
      sym
      (rw (← page_whole page_room ts)
      (differs_within x (page_text page_room ts) (lines_text (page_rest page_room ts)) (sym b ∙ rw e)))

  module _ (p : Page) (e : r ≡ Some p) (m : ℕ) (us : List (List ℕ)) (g : IsPage m ts us p.len) where
    begun : same (take (length (page_text page_room ts)) x) (page_text page_room ts) ≡ true
    begun = sym b ∙ rw e

    pub page_inside : p.len ≤ length x
    page_inside = omega (arith, g.len, begins_inside x (page_text page_room ts) begun)

    pub page_same : same (take (length x - p.len) (drop p.len x)) (lines_text us) ≡ same x (lines_text ts)
    page_same =
        rw (part_from x p.len, g.rest, g.len, ← page_whole page_room ts)
        (sym (same_after x (page_text page_room ts) (lines_text (page_rest page_room ts)) begun))

-- a page that is not empty leaves fewer lines, and an empty one none
module _ (ts us : List (List ℕ)) (n m : ℕ) where
  pub page_fewer : IsPage m ts us n → (n ≡ 0 → ⊥) → length us < length ts
  page_fewer g h = rw g.rest (page_less page_room ts (omega (arith, g.len, h)))

  -- where no line is left, nothing of the text may be
  pub none_left : IsPage (m + 128) ts us n → m ≤ file_limit → n ≡ 0 → (x : List ℕ) → eqb (length x) 0 ≡ same x (lines_text ts)
  unfolding lines_text same
  none_left g h e [] = let z : ts ≡ [] = g.whole (omega (arith, h)) e in rw z
  none_left g h e (y ∷ ys) =
      let z : ts ≡ [] = g.whole (omega (arith, h)) e in
      rw (z, ne_eqb (length (y ∷ ys)) 0 (λ w. absurd (omega (arith, w))))
