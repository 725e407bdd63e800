-- The lines of a text, the parts of a line and the line feeds, taken from the front and as the library's chains give
-- them.
-- Assumes nothing.
use Rattle.std.specs.Prelude.{count_by}
use Rattle.std.specs.declared.slice.Split.{Split}
use Rattle.std.specs.Slice.Iter.{split_done, split_rest}
use Rattle.std.specs.Bool.{MatchBool}
use Rattle.std.specs.List.{All, IsFirstMatchOrLen, slice_split, onto_first}
use Rattle.std.proofs.lemmas.List.Recursion.{is_count_by}
use Rattle.std.proofs.lemmas.Grind.{common_steps}
use Rattle.std.proofs.lemmas.List.Splits.{slice_split_none, slice_split_at}
use mathlib.Core.Path.{◌≡◌, refl, sym, ap, subst, ◌∙◌}
use mathlib.Core.List.{List, [], ◌∷◌, ◌++◌}
use mathlib.Core.Bool.{Bool, true, false, not, cond}
use Prim.Native.Nat.{ℕ, suc, ◌+◌, ◌≤◌, ◌<◌}
use native.Mathlib.Omega.{arith}
use lib.ListN.{get_or, length, take, drop, length-drop, drop_of_length-le}
use lib.Seq.{length-take-le, drop-drop, take-add}
use lib.Dec.{eqb}
use Rattle.ascii.specs.Text.{front}
use Rattle.ascii.proofs.Cases.{either}
use Rattle.ascii.proofs.Front.{front_le}
use Rattle.steps.specs.Split.{prepend, lines_of, line_at, parts, before, line_feeds}

-- the first line of some bytes, and the lines after its line feed
first_line : (s : List ℕ) → 0 < length s → lines_of s ≡ take (before 10 s) s ∷ lines_of (drop (suc (before 10 s)) s)
unfolding lines_of front
first_line [] h = absurd (omega arith)
first_line (b ∷ []) h = either (eqb b 10) (λ e. rw e) (λ e. rw e)
first_line (b ∷ c ∷ cs) h =
    either (eqb b 10) (λ e. rw e) (λ e. rw e (ap (prepend b) (first_line (c ∷ cs) (omega arith))))

feeds_append : (s t : List ℕ) → line_feeds (s ++ t) ≡ line_feeds s + line_feeds t
unfolding line_feeds
feeds_append [] t = omega arith
feeds_append (b ∷ bs) t =
    either (eqb b 10) (λ e. rw e (omega (arith, feeds_append bs t))) (λ e. rw e (feeds_append bs t))

-- a line with its line feed has one
first_feed : (s : List ℕ) → before 10 s < length s → line_feeds (take (suc (before 10 s)) s) ≡ 1
unfolding line_feeds front
first_feed [] h = absurd (omega arith)
first_feed (b ∷ bs) h = either (eqb b 10) (λ e. rw e) (λ e. rw e (first_feed bs (let m = rw e at h in omega arith)))

-- from a place of the text on
module _ (s : List ℕ) (at : ℕ) where
  pub line_inside : at < length s → at + before 10 (drop at s) ≤ length s
  line_inside h = omega (arith, front_le (λ (b : ℕ). not (eqb b 10)) (drop at s), length-drop at s)

  pub line_length : at < length s → length (line_at s at) ≡ before 10 (drop at s)
  line_length h = length-take-le (before 10 (drop at s)) (drop at s) (rw (length-drop at s) (omega (arith, line_inside h)))

  pub after : (n : ℕ) → drop (suc n) (drop at s) ≡ drop (at + n + 1) s
  after n = let e : at + suc n ≡ at + n + 1 = omega arith in drop-drop (suc n) at s ∙ ap (λ (k : ℕ). drop k s) e

  pub lines_next : at < length s → lines_of (drop at s) ≡ take (before 10 (drop at s)) (drop at s) ∷ lines_of (drop (at + before 10 (drop at s) + 1) s)
  lines_next h =
      first_line (drop at s) (omega (arith, length-drop at s))
      ∙ ap (λ (t : List ℕ). take (before 10 (drop at s)) (drop at s) ∷ lines_of t) (after (before 10 (drop at s)))

  pub lines_none : length s ≤ at → lines_of (drop at s) ≡ []
  unfolding lines_of
  lines_none h = rw (drop_of_length-le s h)

  pub feeds_next : at + before 10 (drop at s) < length s → line_feeds (take (at + before 10 (drop at s) + 1) s) ≡ line_feeds (take at s) + 1
  feeds_next h =
      let n = before 10 (drop at s) in
      let e : at + n + 1 ≡ at + suc n = omega arith in
      rw (e, take-add at (suc n) s) (feeds_append (take at s) (take (suc n) (drop at s))
      ∙ ap (λ (k : ℕ). line_feeds (take at s) + k) (first_feed (drop at s) (omega (arith, length-drop at s))))

-- a line, or a word, lies within its text
pub before_inside : (e n : ℕ) (s : List ℕ) → n ≡ before e s → n ≤ length s
before_inside e n s h = omega (arith, h, front_le (λ (b : ℕ). not (eqb b e)) s)

pub before_within : (e n : ℕ) (s : List ℕ) → n ≡ before e s → n ≡ length (take n s)
before_within e n s h = sym (length-take-le n s (before_inside e n s h))

pub feeds_count : (s : List ℕ) → count_by (λ (b : ℕ). eqb b 10) s ≡ line_feeds s
unfolding line_feeds
feeds_count s =
    sym (is_count_by line_feeds (λ (b : ℕ). eqb b 10) refl
    (λ b bs. either (eqb b 10) (λ t. rw t (omega arith)) (λ t. rw t)) s)

-- a byte in front of the first part, as the library says it
put_first : (b : ℕ) (ps : List (List ℕ)) → onto_first b ps ≡ prepend b ps
put_first b [] = refl
put_first b (p ∷ ps) = refl

pub parts_split : (s : List ℕ) → slice_split (λ (b : ℕ). eqb b 32) s ≡ parts s
unfolding parts
parts_split [] = refl
parts_split (b ∷ bs) = either (eqb b 32) (λ t. rw (t, parts_split bs)) (λ t. rw (t, parts_split bs) (put_first b (parts bs)))

-- the parts that the library's walk over them has yet to give
abbrev pub parts_left : {F : Type 0} → Split ℕ F → List (List ℕ)
parts_left t = cond (split_done t) [] (parts (split_rest t))

-- a part that ends at the first space, or at the end of the text
part_given : (s x rest : List ℕ) (done : Bool) → MatchBool done (s ≡ x) ((y : ℕ) × (s ≡ x ++ (y ∷ rest)))
    → IsFirstMatchOrLen (λ (b : ℕ). eqb b 32) s (length x) → parts s ≡ x ∷ cond done [] (parts rest)
part_given s x rest true e h =
    sym (parts_split s) ∙ ap (slice_split (λ (b : ℕ). eqb b 32)) e
    ∙ slice_split_none (λ (b : ℕ). eqb b 32) x (λ k d l. subst (λ ys. eqb (get_or ys k d) 32 ≡ false) e (h.0 k d (omega arith) l))
part_given s x rest false e h =
    let front : All (λ z. eqb z 32 ≡ false) x = λ k d l. let a = h.0 k d (omega arith) l in let b = e.1 in grind (arith, common_steps) in
    let hit : eqb e.0 32 ≡ true = let b = e.1 in let a = h.1 (grind (arith, common_steps)) e.0 in grind (arith, common_steps) in
    sym (parts_split s) ∙ ap (slice_split (λ (b : ℕ). eqb b 32)) e.1 ∙ slice_split_at (λ (b : ℕ). eqb b 32) x e.0 rest front hit
    ∙ ap (λ ps. x ∷ ps) (parts_split rest)

pub left_next : {F : Type 0} (s t : Split ℕ F) (x : List ℕ) → split_done s ≡ false
    → MatchBool (split_done t) (split_rest s ≡ x) ((y : ℕ) × (split_rest s ≡ x ++ (y ∷ split_rest t)))
    → IsFirstMatchOrLen (λ (b : ℕ). eqb b 32) (split_rest s) (length x) → parts_left s ≡ x ∷ parts_left t
left_next s t x d e h = rw d (part_given (split_rest s) x (split_rest t) (split_done t) e h)
