-- Two data areas that agree and are not the same: they differ in their lengths, in a column that is not chosen, in the gap before the heap, in
-- heap bytes that no descriptor names, and where an array that is not sound would lie. One header is accepted with both, so `isolation` applies to them.
-- Assumes nothing.
use Prim.Native.Nat.{ℕ, zero, suc, ◌+◌, ◌*◌, ◌<◌}
use mathlib.Core.Path.{◌≡◌, refl, sym, subst}
use mathlib.Core.Bool.{Bool, true, ◌&&◌, false≢true}
use mathlib.Core.Logic.{◌≢◌}
use mathlib.Core.List.{List, [], ◌∷◌, ◌++◌, map}
use native.Mathlib.Nat.{not-suc-le-zero, le_of_suc-le-suc}
use native.Mathlib.Omega.{arith}
use lib.Dec.{eqb}
use lib.ListN.{length, get_or, replicate}
use borrow.Author.Tests.{eqb-true, eqb-false}
use Rattle.ascii.specs.Text.{bytes}
use Rattle.ascii.proofs.Cases.{both, either}
use Rattle.tform.specs.declared.VariableArrayTy.TheVariants as T
use Rattle.tform.specs.declared.TFormType.TheVariants as F
use Rattle.tform.specs.Width.{among, letter_width}
use Rattle.layout.specs.declared.BinTable.{BinTable}
use Rattle.layout.proofs.Literals.{column}
use Rattle.layout.specs.Layout.{no_column, column_bytes}
use Rattle.bintable.specs.Entry.{accepted, entry}
use Rattle.std.specs.Float.{binary64}
use Rattle.std.specs.Float.Ieee.{of_bits}
use Rattle.cell.specs.declared.DataValue.{DataValue}
use Rattle.cell.specs.declared.DataValue.TheVariants.{UnsignedByte, Double}
use Rattle.cell.specs.declared.Cell.{Cell}
use Rattle.cell.specs.Item.{word}
use Rattle.cell.specs.Field.{array, field32, field}
use Rattle.walk.specs.Plain.{column_of, field_at, field_of, cell_of, chosen}
use Rattle.walk.specs.Scaled.{plain, scaled}
use Rattle.walk.specs.Walk.{Step, read_cell, read_row, seek, Reply, got_cell, sought, refused, start}
use Rattle.walk.specs.Step.{cursor_at, listed, choice_from, choice_of, StepResult, run}
use Rattle.walk.proofs.Computed.{computed_run}
use Rattle.walk.specs.Agree.{Same, SameItems, Agree, SameSteps}
use Rattle.walk.proofs.Isolation.{isolation}
use Rattle.header.proofs.Texts.{padded, first_records}
use Rattle.bintable.proofs.Computed.{computed}

-- two rows of a descriptor `1PB` and an `1I`, four bytes before the heap, and six in it
abbrev pub table : BinTable
table =
    record {
      naxis1 = 10;
      naxis2 = 2;
      pcount = 10;
      theap = 24;
      tfields = 2;
      columns = column (F.P T.B) 1 0 ∷ column (F.Items T.I) 1 8 ∷ replicate 62 no_column;
    }

-- row 0 names two bytes from byte 1 of the heap on; row 1 five from byte 4 on, which end past it
abbrev pub area : ℕ → List ℕ → List ℕ
area x rest =
    0 ∷ 0 ∷ 0 ∷ 2 ∷ 0 ∷ 0 ∷ 0 ∷ 1 ∷ x ∷ x ∷ 0 ∷ 0 ∷ 0 ∷ 5 ∷ 0 ∷ 0 ∷ 0 ∷ 4 ∷ x ∷ x ∷ x ∷ x ∷ x ∷ x ∷ x ∷ 80 ∷ 90 ∷ x ∷ x ∷ x ∷ rest

abbrev pub area_a : List ℕ
area_a = area 1 []

abbrev pub area_b : List ℕ
area_b = area 2 (3 ∷ 4 ∷ [])

unfoldable equal : List ℕ → List ℕ → ℕ → ℕ → Bool
equal a b p zero = true
equal a b p (suc n) = eqb (get_or a (p + n) 0) (get_or b (p + n) 0) && equal a b p n

are_same : (a b : List ℕ) (p n : ℕ) → equal a b p n ≡ true → Same a b p n
unfolding equal
are_same a b p zero e i l u = absurd (omega (arith, l, u))
are_same a b p (suc n) e i l u =
    let q = both (eqb (get_or a (p + n) 0) (get_or b (p + n) 0)) (equal a b p n) e in
    either (eqb i (p + n))
    (λ t. rw (eqb-true i (p + n) t) (eqb-true _ _ q.0))
    (λ t. are_same a b p n q.1 i l (omega (arith, eqb-false i (p + n) t, u)))

fields : (r c : ℕ) → r < 2 → c < 2 → chosen 1 c ≡ true → Same area_a area_b (field_at table r c) (column_bytes (column_of table c))
unfolding chosen letter_width among bytes equal
fields zero zero hr hc e = are_same area_a area_b 0 8 refl
fields (suc zero) zero hr hc e = are_same area_a area_b 10 8 refl
fields (suc (suc r)) zero hr hc e = absurd (not-suc-le-zero (le_of_suc-le-suc (le_of_suc-le-suc hr)))
fields r (suc zero) hr hc e = absurd (false≢true e)
fields r (suc (suc c)) hr hc e = absurd (not-suc-le-zero (le_of_suc-le-suc (le_of_suc-le-suc hc)))

arrays : (r c : ℕ) → r < 2 → c < 2 → chosen 1 c ≡ true → SameItems area_a area_b (field_of table area_a true r c)
unfolding chosen field_of field field32 array word letter_width among bytes equal
arrays zero zero hr hc e = are_same area_a area_b 25 2 refl
arrays (suc zero) zero hr hc e = tt
arrays (suc (suc r)) zero hr hc e = absurd (not-suc-le-zero (le_of_suc-le-suc (le_of_suc-le-suc hr)))
arrays r (suc zero) hr hc e = absurd (false≢true e)
arrays r (suc (suc c)) hr hc e = absurd (not-suc-le-zero (le_of_suc-le-suc (le_of_suc-le-suc hc)))

-- with column 0 chosen and the heap on the two areas agree
pub areas_agree : Agree table area_a area_b 1 true
areas_agree = record { fields = fields; arrays = arrays }

-- they differ in length, in the column that is not chosen, in the gap before the heap, in heap bytes that no descriptor names (24 and 27), and in
-- byte 28, where the array of row 1 would start
pub areas_differ : (length area_a ≢ length area_b)
    × ((get_or area_a 8 0 ≢ get_or area_b 8 0)
    × ((get_or area_a 20 0 ≢ get_or area_b 20 0)
    × ((get_or area_a 24 0 ≢ get_or area_b 24 0)
    × ((get_or area_a 27 0 ≢ get_or area_b 27 0) × (get_or area_a 28 0 ≢ get_or area_b 28 0)))))
areas_differ = (omega arith, (omega arith, (omega arith, (omega arith, (omega arith, omega arith)))))

-- a header that both are accepted with, which gives this layout: 11 records, END and 24 blank ones
unfoldable pub header : List ℕ
header =
    first_records "10" "2" "10" "2"
    ++ padded "THEAP   =                   24"
    ++ padded "TFORM1  = '1PB     '"
    ++ padded "TFORM2  = '1I      '"
    ++ padded "END"
    ++ replicate (24 * 80) 32

pub both_accepted : (entry header area_a ≡ accepted table) × (entry header area_b ≡ accepted table)
unfolding computed header
both_accepted = (refl, refl)

-- the choice of column 0, of a column that is repeated, and of one that is unknown
pub choice_one : choice_of table (listed (0 ∷ 9 ∷ 0 ∷ [])) ≡ 1
unfolding choice_from among
choice_one = refl

-- what both give: the two bytes that row 0 names, the second scaled, then refusal 13 of column 0, which stays; after a seek the first byte again
abbrev steps : List Step
steps = read_cell plain ∷ read_cell scaled ∷ read_cell plain ∷ read_row scaled [] ∷ seek 0 ∷ read_cell plain ∷ []

abbrev double : ℕ → DataValue
double bits = Double (of_bits binary64 bits) bits

abbrev cell_at : ℕ → ℕ → Cell
cell_at i b = cell_of 0 0 i (UnsignedByte b)

pub replies : List ℕ → List Reply
unfolding computed_run
replies a = map (λ (o : StepResult). o.reply) (run table a (cursor_at 1 true start) steps)

pub both_reply : (replies area_a ≡ got_cell (cell_at 0 80) ∷ got_cell (cell_of 0 0 1 (double 0x4056800000000000)) ∷ refused 13 0 ∷ refused 13 0 ∷ sought ∷ got_cell (cell_at 0 80) ∷ [])
    × (replies area_a ≡ replies area_b)
unfolding replies of_bits
both_reply = (refl, refl)

-- so the theorem applies to these two areas: its premises are met
pub instance : SameSteps table area_a area_b (listed (0 ∷ 9 ∷ 0 ∷ [])) true (cursor_at 1 true start) steps
unfolding computed_run
instance =
    (isolation header area_a area_b (listed (0 ∷ 9 ∷ 0 ∷ [])) true steps table table both_accepted.0 both_accepted.1
    (subst (λ (choice : ℕ). Agree table area_a area_b choice true) (sym choice_one) areas_agree)).1.1 (cursor_at 1 true start) refl
