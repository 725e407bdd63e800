-- Two headers that are the same but for records that hold no used name, and but for what follows END (FORMAT.md,
-- section 4).
-- Assumes nothing.
use Rattle.std.specs.Prelude.{List, [], ◌∷◌, ℕ, Bool, true, false, not, ◌&&◌, ◌||◌, length, eqb}
use Rattle.ascii.specs.Text.{same}
use Rattle.card.specs.Record.{is_end, name_of}
use Rattle.keyword.specs.Names.{used_names, position}
use Rattle.header.specs.Records.{records, found}

-- the request's records "which hold no used name": one that is not END and holds none. TFORMn, TTYPEn, TSCALn, TZEROn
-- and TNULLn are used names for each n from 1 to 999. A record that holds no value has no name, whatever letters it
-- begins with
unfoldable pub unused : List ℕ → Bool
unused r = not (is_end r) && not (found (position (name_of r) used_names))

-- a record may become another one: it is the same, or both are unused
unfoldable pub may_become : List ℕ → List ℕ → Bool
may_become r s = same r s || (unused r && unused s)

-- as many records, of which each up to END may become the one in its place; all of them, if there is no END
unfoldable pub all_may_become : List (List ℕ) → List (List ℕ) → Bool
all_may_become [] [] = true
all_may_become [] (s ∷ ss) = false
all_may_become (r ∷ rs) [] = false
all_may_become (r ∷ rs) (s ∷ ss) = may_become r s && (is_end r || all_may_become rs ss)

-- a header may become another one: they have the same length, and the records of the one may become those of the
-- other
unfoldable pub header_may_become : List ℕ → List ℕ → Bool
header_may_become h g = eqb (length h) (length g) && all_may_become (records h) (records g)
