-- What turning by a header comes to: the entry on the header and the data area, then the call on its layout.
-- Assumes nothing.
use Rattle.std.specs.Prelude.{ℕ, List}
use Rattle.refusal.specs.Refusal.{Outcome, accepted, refused}
use Rattle.bintable.specs.Entry as B
use Rattle.turn.specs.Turn.{turn_outcome, turn_left, turn_back_left}

-- the number of a refusal, 0 where nothing is refused
abbrev pub outcome_number : Outcome → ℕ
outcome_number accepted = 0
outcome_number (refused n p) = n

-- what is returned, of both calls: the number of the entry's refusal, or of the call's
abbrev pub turn_number : B.Entry → List ℕ → List ℕ → ℕ
turn_number (B.accepted l) from to = outcome_number (turn_outcome l from to)
turn_number (B.refused n p) from to = n

-- the buffer afterwards: as the call leaves it, and as it was where the entry refuses
abbrev pub turn_buffer : B.Entry → List ℕ → List ℕ → List ℕ
turn_buffer (B.accepted l) from to = turn_left l from to
turn_buffer (B.refused n p) from to = to

abbrev pub turn_back_buffer : B.Entry → List ℕ → List ℕ → List ℕ
turn_back_buffer (B.accepted l) from to = turn_back_left l from to
turn_back_buffer (B.refused n p) from to = to
