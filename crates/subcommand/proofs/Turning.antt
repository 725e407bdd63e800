-- A table in a file, turned: the calls refuse nothing of what the entry has accepted, and what is written is as long
-- as the file.
-- Assumes nothing.
use Rattle.std.proofs.Common.{ℕ, ◌≡◌, ◌+◌, List, ◌++◌, length, refl, arith}
use Rattle.layout.specs.declared.BinTable.{BinTable}
use Rattle.bintable.specs.Entry.{entry, accepted}
use Rattle.bintable.proofs.Kept.{entry_ok, entry_long}
use Rattle.refusal.specs.Refusal as R
use Rattle.header.specs.Records.{header_of, data_of}
use Rattle.header.proofs.Parted.{parted_length}
use Rattle.turn.specs.Turn.{turn_outcome}
use Rattle.turn.proofs.Turned.{turned_length}
use Rattle.turn.proofs.Calls.{turn_refusals}
use Rattle.subcommand.specs.declared.answers.Way.{Way}
use Rattle.subcommand.specs.declared.answers.Way.TheVariants as W
use Rattle.subcommand.specs.Ways.{area_by, file_by}

pub file_parts : (w : Way) (l : BinTable) (f : List ℕ) → file_by w l f ≡ header_of f ++ area_by w l (data_of f)
file_parts W.Turn l f = refl
file_parts W.TurnBack l f = refl

module _ (f : List ℕ) (l : BinTable) (w : Way) (e : entry (header_of f) (data_of f) ≡ accepted l) where
  pub turn_accepts : (to : List ℕ) → length (data_of f) ≡ length to → turn_outcome l (data_of f) to ≡ R.accepted
  turn_accepts to same =
      (turn_refusals l (data_of f) to).none (entry_ok (header_of f) (data_of f) l e) same
      (entry_long (header_of f) (data_of f) l e)

  area_length : (w : Way) → length (area_by w l (data_of f)) ≡ length (data_of f)
  area_length W.Turn =
      turned_length l.naxis2 l.naxis1 (data_of f) (omega (arith, entry_long (header_of f) (data_of f) l e))
  area_length W.TurnBack =
      turned_length l.naxis1 l.naxis2 (data_of f) (omega (arith, entry_long (header_of f) (data_of f) l e))

  pub whole_length : length (header_of f) + length (area_by w l (data_of f)) ≡ length f
  whole_length = omega (arith, area_length w, parted_length f)
