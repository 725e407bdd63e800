-- What two data areas have in common, and the claim about a whole list of steps (FORMAT.md, section 15).
-- Assumes nothing.
use Rattle.std.specs.Prelude.{ℕ, ◌+◌, ◌*◌, ◌≤◌, ◌<◌, min, ◌≡◌, Bool, true, List, [], ◌∷◌, map, get_or}
use Rattle.layout.specs.declared.BinTable.{BinTable}
use Rattle.layout.specs.Layout.{column_bytes}
use Rattle.cell.specs.declared.Field.{Field}
use Rattle.cell.specs.declared.Field.TheVariants as F
use Rattle.cell.specs.Item.{width}
use Rattle.walk.specs.declared.TableData.{TableData}
use Rattle.walk.specs.Plain.{column_of, field_at, field_of, chosen}
use Rattle.walk.specs.Walk.{Step, stop, handed}
use Rattle.walk.specs.Step.{Selection, choice_of, StepResult, with_cursor, run, plain_walk}

-- the n bytes from place p on are the same in a and b
abbrev pub Same : List ℕ → List ℕ → ℕ → ℕ → Type 0
Same a b p n = (i : ℕ) → p ≤ i → i < p + n → get_or a i 0 ≡ get_or b i 0

-- the bytes of the items that a field stands for are the same in a and b. A descriptor that is not followed, or whose array is not sound, names none
abbrev pub SameItems : List ℕ → List ℕ → Field → Type 0
SameItems a b (F.Items ty at n) = Same a b at (n * width ty)
SameItems a b (F.Descriptor v) = Unit {0}
SameItems a b F.OutsideHeap = Unit {0}

-- the request's premise of demand 3: a and b agree in every byte of the chosen fields and, where the heap is followed, in the heap
-- stretches that sound descriptors in those fields name. Of a field that is no descriptor `arrays` says what `fields` says.
pub record Agree (l : BinTable) (a b : List ℕ) (choice : ℕ) (heap : Bool) : Type 0 where
  pub fields : (r c : ℕ) → r < l.naxis2 → c < l.tfields → chosen choice c ≡ true → Same a b (field_at l r c) (column_bytes (column_of l c))
  pub arrays : (r c : ℕ) → r < l.naxis2 → c < l.tfields → chosen choice c ≡ true → SameItems a b (field_of l a heap r c)

-- after each step the cursor's count is the number of cells that the steps so far handed out, up to the stop; k were handed out before
abbrev pub Counted : ℕ → List Step → List StepResult → Type 0
Counted k [] [] = Unit {0}
Counted k [] (o ∷ os) = ⊥
Counted k (x ∷ xs) [] = ⊥
Counted k (x ∷ xs) (o ∷ os) = (o.cursor.count ≡ min stop (k + handed x o.reply)) × Counted (k + handed x o.reply) xs os

-- the steps xs from the cursor c, opened with this selection and heap setting: on a and on b each is what the plain walk gives there, the two are the
-- same, and the counts are right on both
pub record SameSteps (l : BinTable) (a b : List ℕ) (sel : Selection) (heap : Bool) (c : TableData) (xs : List Step) : Type 0 where
  pub walked_a : run l a c xs ≡ map (with_cursor (choice_of l sel) heap) (plain_walk l a (choice_of l sel) heap xs)
  pub walked_b : run l b c xs ≡ map (with_cursor (choice_of l sel) heap) (plain_walk l b (choice_of l sel) heap xs)
  pub same : run l a c xs ≡ run l b c xs
  pub counted_a : Counted 0 xs (run l a c xs)
  pub counted_b : Counted 0 xs (run l b c xs)
