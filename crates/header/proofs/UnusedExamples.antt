-- Unused records, and headers that may become others or may not, by computation.
-- Assumes nothing.
use Prim.Native.Nat.{ℕ}
use Prim.Native.String.{String}
use mathlib.Core.Path.{◌≡◌, refl}
use mathlib.Core.Bool.{Bool, true, false}
use mathlib.Core.List.{List, [], ◌∷◌, ◌++◌, map, flat_map}
use lib.ListN.{replicate}
use Rattle.ascii.specs.Text.{bytes, same, spaces, trim}
use Rattle.card.specs.Record.{card_at, is_end, has_value, name_of}
use Rattle.keyword.specs.Names.{range, numeral, indexed, single, once_roots, other_roots, used_names, position}
use Rattle.header.specs.Records.{records}
use Rattle.header.specs.Unused.{unused, may_become, all_may_become, header_may_become}
use Rattle.header.proofs.Texts.{padded, fixed, first_records}

-- `unfolding compared` opens all that a comparison of two headers goes through
unfoldable pub compared : List ℕ → List ℕ → Bool
unfolding padded fixed first_records is_end has_value name_of same trim spaces bytes range numeral indexed single
    once_roots other_roots used_names flat_map position card_at records unused may_become all_may_become
    header_may_become
compared h g = header_may_become h g

-- END and the records that hold a used name are not unused
pub used_examples : map (λ (t : String). unused (padded t)) (
    "END" ∷ "NAXIS1  = 6" ∷ "TFORM999= '1I'" ∷ "TTYPE65 = 'WT'" ∷ "TSCAL10 = 2" ∷ "TZERO1  = 'none'"
    ∷ "TNULL2  = 0" ∷ []
    )
    ≡ replicate 7 false
unfolding compared
used_examples = refl

-- the others are: those that hold no value, whatever they begin with, numbers with a zero in front or none, small
-- letters, another name, and END with more in its record
pub unused_examples : map (λ (t : String). unused (padded t)) (
    "COMMENT coater 3" ∷ "" ∷ "NAXIS1    6" ∷ "TFORM1  ='9Z'" ∷ "TNULL02 = 0" ∷ "TNULL0  = 0"
    ∷ "TNULL   = 0" ∷ "TNULL1A = 0" ∷ "tnull2  = 0" ∷ "TDISP2  = 'I8'" ∷ "END     = 1" ∷ "ENDS" ∷ []
    )
    ≡ replicate 12 true
unfolding compared
unused_examples = refl

-- headers that may become each other: END in the last record, a used name behind END, no END, a length that is
-- refused, and bytes behind the last whole record
pub may_examples : (header_may_become (padded "COMMENT" ++ padded "END") (padded "" ++ padded "END") ≡ true)
    × (header_may_become (padded "END" ++ padded "END") (padded "END" ++ padded "NAXIS   = 2") ≡ true)
    × (header_may_become (padded "" ++ padded "TNULL9  = 3") (padded "COMMENT" ++ padded "TNULL9  = 3") ≡ true)
    × (header_may_become (padded "" ++ (66 ∷ [])) (padded "COMMENT" ++ (67 ∷ [])) ≡ true)
unfolding compared
may_examples = (refl, refl, refl, refl)

-- and headers that may not: END has moved, or is gone; without END, TNULL999 has changed or TNULL9 is gone; one is
-- longer
pub may_not_examples : (header_may_become (padded "" ++ padded "END") (padded "END" ++ padded "") ≡ false)
    × (header_may_become (padded "END" ++ padded "") (padded "" ++ padded "") ≡ false)
    × (header_may_become (padded "" ++ padded "TNULL999= 3") (padded "" ++ padded "TNULL999= 4") ≡ false)
    × (header_may_become (padded "" ++ padded "TNULL9  = 3") (padded "" ++ padded "") ≡ false)
    × (header_may_become (padded "END") (padded "END" ++ (32 ∷ [])) ≡ false)
unfolding compared
may_not_examples = (refl, refl, refl, refl, refl)
