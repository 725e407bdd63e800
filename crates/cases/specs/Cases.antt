-- The file of cases and what comes of them.
-- Assumes nothing.
use Rattle.std.specs.Prelude.{ℕ, ◌≡◌, zero, suc, ◌+◌, ◌-◌, ◌≤◌, Bool, true, false, cond, List, length, take, drop, ltb, leb, Some, None, unwrap_or}
use Rattle.ascii.specs.Text.{same}
use Rattle.cell.specs.Item.{word}
use Rattle.cases.specs.Text.{replay_text}
use Rattle.cases.specs.declared.count.Tally.{Tally}
use Rattle.cases.specs.declared.count.Case.{Case}

-- ---- a case: three lengths of four bytes, then the table, the steps and the text that is expected

-- where the steps and the text begin, and where the case ends
abbrev pub steps_at : List ℕ → ℕ
steps_at b = 12 + word b 0 4

abbrev pub text_at : List ℕ → ℕ
text_at b = steps_at b + word b 4 4

abbrev pub case_end : List ℕ → ℕ
case_end b = text_at b + word b 8 4

-- the bytes from place i to place j
abbrev pub part : ℕ → ℕ → List ℕ → List ℕ
part i j b = take (j - i) (drop i b)

-- the case at the front of some bytes, and what stands after it
pub record IsCase (b : List ℕ) (k : Case) : Type 0 where
  pub whole : case_end b ≤ length b
  pub table : k.table.now ≡ part 12 (steps_at b) b
  pub steps : k.steps.now ≡ part (steps_at b) (text_at b) b
  pub text : k.text.now ≡ part (text_at b) (case_end b) b
  pub rest : k.rest.now ≡ drop (case_end b) b

-- whether the text is what `replay` prints of the table and the steps
abbrev pub answer : List ℕ → ℕ → ℕ → ℕ → Bool
answer b s t e = same (part t e b) (replay_text (part 12 s b) (part s t b))

-- ---- how many there are and how many differ

abbrev pub none : Tally
none = record { cases = 0; differ = 0; first = None; cut = false }

-- one case more. The cases are counted from 1
abbrev pub counted : Tally → Bool → Tally
counted t true = record { cases = t.cases + 1; differ = t.differ; first = t.first; cut = t.cut }
counted t false = record { cases = t.cases + 1; differ = t.differ + 1; first = Some (unwrap_or t.first (t.cases + 1)); cut = t.cut }

-- no whole case is left; bytes that are left are a case that is cut
abbrev pub ended : Tally → ℕ → Tally
ended t left = record { cases = t.cases; differ = t.differ; first = t.first; cut = ltb 0 left }

-- those of some bytes, counted on from t, n cases at most
unfoldable pub tallied : ℕ → Tally → List ℕ → Tally
tallied zero t b = ended t (length b)
tallied (suc n) t b =
    cond (leb (case_end b) (length b))
    (tallied n (counted t (answer b (steps_at b) (text_at b) (case_end b))) (drop (case_end b) b))
    (ended t (length b))

-- those of a file. A case has 12 bytes at least, so there are no more cases than bytes
abbrev pub tally_of : List ℕ → Tally
tally_of f = tallied (length f) none f
