-- The lines before the first step, read one by one.
-- Assumes nothing.
use Rattle.std.specs.Prelude.{Some, None, Result, Err, Ok}
use Prim.Native.Nat.{ℕ, suc, ◌+◌, ◌-◌, ◌≤◌, ◌<◌}
use mathlib.Core.Path.{◌≡◌, refl, sym, ◌∙◌}
use mathlib.Core.Bool.{true, false, cond}
use mathlib.Core.List.{List, [], ◌∷◌}
use native.Mathlib.Numerals.{add-one}
use native.Mathlib.Omega.{arith}
use lib.Dec.{ltb}
use lib.ListN.{length, take, drop}
use borrow.Author.Tests.{ltb-true, ltb-false}
use Rattle.std.proofs.lemmas.Option.{same_Some, none-some}
use Rattle.ascii.proofs.Cases.{either}
use Rattle.refusal.specs.Refusal as H
use Rattle.layout.specs.declared.BinTable.{BinTable}
use Rattle.refusal.specs.declared.Refusal.{Refusal}
use Rattle.refusal.specs.Refusal.{number_of, place_of}
use Rattle.bintable.specs.Entry.{accepted, entry}
use Rattle.walk.specs.declared.TableData.{TableData}
use Rattle.walk.specs.Step.{open_with, opening_of}
use Rattle.listing.specs.Lines.{refused_line}
use Rattle.steps.specs.Split.{before, lines_of, line_at, line_feeds}
use Rattle.steps.specs.Line.{Says, says, choose_all, choose, heap, cell, row, bad, command_of}
use Rattle.steps.specs.Line as S
use Rattle.steps.proofs.Lines.{line_length, lines_next, lines_none, feeds_next}
use Rattle.header.specs.Records.{header_of, data_of}
use Rattle.output.specs.Replay as R
use Rattle.output.specs.State.{steps_from, left, file_left}
use Rattle.output.specs.declared.settings.Settings.{Settings}
use Rattle.output.specs.declared.State.{State}
use Rattle.output.specs.Settings.{columns_in, settings_in, changed, next_settings, Read, Reading}

-- where no line is left its number does not matter
none_by : (l : BinTable) (a : List ℕ) (st : R.Settings) (m n : ℕ) (x : H.Outcome)
    → let o = open_with l a st.columns st.heap in R.opening_lines o (R.step_lines l a m []) x ≡ R.opening_lines o (R.step_lines l a n []) x
unfolding R.step_lines
none_by l a st m n H.accepted = refl
none_by l a st m n (H.refused k p) = refl

opened_none : (l : BinTable) (a : List ℕ) (st : R.Settings) (m n : ℕ) → R.opened l a st m [] ≡ R.opened l a st n []
opened_none l a st m n = none_by l a st m n (open_with l a st.columns st.heap).outcome

module _ (s : List ℕ) (at : ℕ) (h : at < length s) where
  abbrev after_line : ℕ
  after_line = at + before 10 (drop at s) + 1

  numbered : (l : BinTable) (a : List ℕ) (st : R.Settings)
      → R.setting_lines l a st (suc (line_feeds (take at s) + 1)) (lines_of (drop after_line s)) ≡ R.setting_lines l a st (line_feeds (take after_line s) + 1) (lines_of (drop after_line s))
  unfolding R.setting_lines
  numbered l a st =
      either (ltb (at + before 10 (drop at s)) (length s))
      (λ t. rw (feeds_next s at (ltb-true _ _ t), ← add-one (line_feeds (take at s) + 1)))
      (λ t.
      rw (lines_none s after_line (omega (arith, ltb-false (at + before 10 (drop at s)) (length s) t)))
      (opened_none l a st (suc (line_feeds (take at s) + 1)) (line_feeds (take after_line s) + 1)))

  -- the lines from a place on, by the first of them
  next_lines : (l : BinTable) (a : List ℕ) (st : R.Settings)
      → R.setting_lines l a st (line_feeds (take at s) + 1) (lines_of (drop at s))
      ≡ cond (R.is_setting (says (line_at s at))) (R.setting_lines l a (R.set st (says (line_at s at))) (line_feeds (take after_line s) + 1) (lines_of (drop after_line s))) (R.opened l a st (line_feeds (take at s) + 1) (lines_of (drop at s)))
  unfolding R.setting_lines
  next_lines l a st = rw (lines_next s at h, ← numbered l a (R.set st (says (line_at s at))))

-- what the code's change says of the line
record Set (s : List ℕ) (t u : Settings) (y : Says) (n : ℕ) : Type 0 where
  setting : R.is_setting y ≡ true
  value : settings_in s u ≡ R.set (settings_in s t) y
  place : u.at ≡ t.at + n + 1

set_by : (s : List ℕ) (t u : Settings) (y : Says) (n : ℕ) → says (line_at s t.at) ≡ y → Some u ≡ changed t (command_of y) n → Set s t u y n
set_by s t u choose_all n e f = let q = same_Some u _ f in record { setting = refl; value = rw q; place = rw q }
set_by s t u (choose is) n e f = let q = same_Some u _ f in record { setting = refl; value = rw (q, e); place = rw q }
set_by s t u (heap on) n e f = let q = same_Some u _ f in record { setting = refl; value = rw q; place = rw q }
set_by s t u (cell how) n e f = absurd (none-some u (sym f))
set_by s t u (row how m) n e f = absurd (none-some u (sym f))
set_by s t u (S.seek r) n e f = absurd (none-some u (sym f))
set_by s t u bad n e f = absurd (none-some u (sym f))

over_by : (t : Settings) (y : Says) (n : ℕ) → None ≡ changed t (command_of y) n → R.is_setting y ≡ false
over_by t choose_all n f = cc
over_by t (choose is) n f = cc
over_by t (heap on) n f = cc
over_by t (cell how) n f = refl
over_by t (row how m) n f = refl
over_by t (S.seek r) n f = refl
over_by t bad n f = refl

-- the next line sets something
record Next (s : List ℕ) (t u : Settings) : Type 0 where
  inside : t.at < length s
  set : Set s t u (says (line_at s t.at)) (length (line_at s t.at))

next_by : (s : List ℕ) (t u : Settings) → Some u ≡ next_settings s t → Next s t u
next_by s t u f =
    either (ltb t.at (length s))
    (λ y. record { inside = ltb-true _ _ y; set = set_by s t u (says (line_at s t.at)) (length (line_at s t.at)) refl (rw y at f) })
    (λ y. absurd (none-some u (sym (rw y at f))))

-- so the place of the next one is further on
pub place_next : (s : List ℕ) (t u : Settings) → Some u ≡ next_settings s t → length s - u.at < length s - t.at
place_next s t u f =
    let g = next_by s t u f in
    omega (arith, g.inside, g.set.place)

module _ (s : List ℕ) (t : Settings) (r : Reading s t) where
  pub reading_next : (u : Settings) → Some u ≡ next_settings s t → Reading s u
  reading_next u f l a =
      let g = next_by s t u f in
      rw (g.set.value, g.set.place, line_length s t.at g.inside)
      (sym (next_lines s t.at g.inside l a (settings_in s t) ∙ rw g.set.setting) ∙ r l a)

  -- the first line that is none of them
  over_inside : t.at < length s → None ≡ changed t (command_of (says (line_at s t.at))) (length (line_at s t.at)) → Read s t
  over_inside h f l a =
      sym (next_lines s t.at h l a (settings_in s t) ∙ rw (over_by t (says (line_at s t.at)) (length (line_at s t.at)) f)) ∙ r l a

  -- the end of the file
  over_end : length s ≤ t.at → Read s t
  unfolding R.setting_lines
  over_end h l a = let z = rw (lines_none s t.at h) at (r l a) in rw (lines_none s t.at h) z

  pub reading_over : None ≡ next_settings s t → Read s t
  reading_over f =
      either (ltb t.at (length s)) (λ y. over_inside (ltb-true _ _ y) (rw y at f))
      (λ y. over_end (ltb-false _ _ y))

-- ---- the opening

module _ (l : BinTable) (a s : List ℕ) (t : Settings) where
  -- the lines by what it returned
  abbrev pub first_lines : Result TableData Refusal → List (List ℕ)
  first_lines (Ok d) = steps_from l a s t.at d
  first_lines (Err q) = refused_line (number_of q) (place_of q) ∷ []

  by_opening : (o : Result TableData Refusal) → opening_of o ≡ open_with l a (columns_in s t.choose) t.heap
      → first_lines o ≡ R.opened l a (settings_in s t) (line_feeds (take t.at s) + 1) (lines_of (drop t.at s))
  by_opening (Ok d) e = rw (← e)
  by_opening (Err q) e = rw (← e)

  pub first_lines_lem : (o : Result TableData Refusal) → Read s t → opening_of o ≡ open_with l a (columns_in s t.choose) t.heap
      → first_lines o ≡ R.setting_lines l a R.defaults 1 (lines_of s)
  first_lines_lem o r e = by_opening o e ∙ r l a

-- ---- the whole

pub replay_passed : (f s : List ℕ) (l : BinTable) → accepted l ≡ entry (header_of f) (data_of f)
    → R.setting_lines l (data_of f) R.defaults 1 (lines_of s) ≡ R.replay_lines f s
replay_passed f s l e = rw (← e)

-- by what the code has: the data of the file, the steps that are looked at, and the state that is first
pub replay_left : (f s a t : List ℕ) (l : BinTable) (x : State) → a ≡ data_of f → t ≡ s
    → ((h : List ℕ) → left h l a t x ≡ R.setting_lines l a R.defaults 1 (lines_of t))
    → accepted l ≡ entry (header_of f) (data_of f) → file_left f l s x ≡ R.replay_lines f s
replay_left f s a t l x d e g h = rw (d, e) at (g (header_of f)) ∙ replay_passed f s l h
