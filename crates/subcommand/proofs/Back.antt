-- A file turned and turned back is the file, and one turned back and turned too; so of two runs, of which the second
-- reads what the first one wrote, the second writes the first one's file.
-- Assumes nothing.
use Rattle.std.proofs.Common.{ℕ, ◌≡◌, ◌%◌, ◌≤◌, Bool, true, false, ◌||◌, not, List, [], ◌++◌, length}
use Rattle.std.proofs.Common.{refl, sym, ◌∙◌, arith, length-append}
use Rattle.std.proofs.lemmas.List.{take-append-drop}
use Rattle.std.specs.Prelude.{Option, Some, None, eqb, ltb}
use borrow.Author.Tests.{eqb-true}
use Rattle.ascii.proofs.Cases.{either}
use Rattle.refusal.specs.Refusal as O
use Rattle.header.specs.Records.{header_len, header_of, data_of}
use Rattle.header.specs.Checks.{bad_length, checked}
use Rattle.header.proofs.Parted.{parted_length}
use Rattle.header.proofs.Lookup.{accepted_length, accepted_end}
use Rattle.layout.specs.declared.BinTable.{BinTable}
use Rattle.layout.specs.Layout.{data_size}
use Rattle.bintable.specs.Entry.{nine_checks, check10, all_checks, Entry, accepted, refused, entry_by, entry}
use Rattle.bintable.proofs.Bounds.{both_accepted}
use Rattle.bintable.proofs.Empty.{empty_refused}
use Rattle.bintable.proofs.Entered.{entry_parts}
use Rattle.bintable.proofs.Kept.{entry_long}
use Rattle.turn.proofs.Turned.{turned_round, turned_back_round}
use Rattle.subcommand.specs.declared.answers.Way.{Way}
use Rattle.subcommand.specs.declared.answers.Way.TheVariants as W
use Rattle.subcommand.specs.Arguments.{turn, turn_back, asked}
use Rattle.subcommand.specs.Printed.{Printed, table_limit, writes, by_entry, of_file, of_table, printed, run}
use Rattle.subcommand.specs.Printed.{turned_file, turned_back_file}
use Rattle.subcommand.specs.Ways.{area_by, file_by}
use Rattle.subcommand.proofs.Front.{header_stays, data_behind}
use Rattle.subcommand.proofs.Turning.{file_parts, whole_length}

-- ---- what the entry says

entry_checked : (h a : List ℕ) (l : BinTable) → entry h a ≡ accepted l → checked h ≡ O.accepted
entry_checked h a l e =
    let q = both_accepted _ _ (sym (entry_parts h a) ∙ passed (all_checks h a) _ e) in
    (both_accepted (checked h) (nine_checks h) q.0).0
  where
    passed : (o : O.Outcome) (m : BinTable) → entry_by o m ≡ accepted l → o ≡ O.accepted
    passed O.accepted m e = refl
    passed (O.refused n p) m e = cc

-- of a data area it looks at the length alone
entry_same : (h a b : List ℕ) → length b ≡ length a → entry h b ≡ entry h a
unfolding all_checks check10
entry_same h a b e = rw e refl

-- a good length is of whole blocks
whole_blocks : (h : List ℕ) → bad_length h ≡ false → length h % 2880 ≡ 0
unfolding bad_length
whole_blocks h e =
    eqb-true (length h % 2880) 0 (last (eqb (length h) 0) (ltb 57600 (length h)) (eqb (length h % 2880) 0) e)
  where
    last : (a b c : Bool) → (a || (b || not c)) ≡ false → c ≡ true
    last true b c e = cc
    last false true c e = cc
    last false false true e = refl
    last false false false e = cc

-- ---- files

-- the call that undoes a call
abbrev pub other : Way → Way
other W.Turn = W.TurnBack
other W.TurnBack = W.Turn

area_back : (w : Way) (l : BinTable) (a : List ℕ) → data_size l ≤ length a → area_by (other w) l (area_by w l a) ≡ a
area_back W.Turn l a fits = turned_round l.naxis2 l.naxis1 a (omega (arith, fits))
area_back W.TurnBack l a fits = turned_back_round l.naxis2 l.naxis1 a (omega (arith, fits))

-- what is written for a file whose table is accepted, and what is made of that
module _ (w : Way) (f : List ℕ) (l : BinTable) (e : entry (header_of f) (data_of f) ≡ accepted l) where
  abbrev area : List ℕ
  area = area_by w l (data_of f)

  good : checked (header_of f) ≡ O.accepted
  good = entry_checked (header_of f) (data_of f) l e

  whole : length (header_of f) % 2880 ≡ 0
  whole = whole_blocks (header_of f) (accepted_length (header_of f) good)

  header_kept : header_of (header_of f ++ area) ≡ header_of f
  header_kept = header_stays f whole (accepted_end (header_of f) good) area

  data_made : data_of (header_of f ++ area) ≡ area
  data_made = data_behind f whole (accepted_end (header_of f) good) area

  area_length : length area ≡ length (data_of f)
  area_length = omega (arith, whole_length f l w e, parted_length f)

  accepts : entry (header_of (header_of f ++ area)) (data_of (header_of f ++ area)) ≡ accepted l
  accepts = rw (header_kept, data_made) (entry_same (header_of f) (data_of f) area area_length ∙ e)

  undone : file_by (other w) l (header_of f ++ area) ≡ f
  undone =
      file_parts (other w) l (header_of f ++ area)
      ∙ rw (header_kept, data_made, area_back w l (data_of f) (entry_long (header_of f) (data_of f) l e))
      (take-append-drop (header_len f) f)

  file_length : length (file_by w l f) ≡ length f
  file_length = rw (file_parts w l f) (length-append (header_of f) area ∙ whole_length f l w e)

  file_back : of_file (writes (file_by (other w))) (file_by w l f) ≡ record { out = f; err = []; status = 0 }
  file_back = rw (file_parts w l f, accepts, undone) refl

pub turned_written : (f : List ℕ) (l : BinTable) → entry (header_of f) (data_of f) ≡ accepted l
    → of_file (writes turned_back_file) (turned_file l f) ≡ record { out = f; err = []; status = 0 }
turned_written f l e = file_back W.Turn f l e

pub turned_back_written : (f : List ℕ) (l : BinTable) → entry (header_of f) (data_of f) ≡ accepted l
    → of_file (writes turned_file) (turned_back_file l f) ≡ record { out = f; err = []; status = 0 }
turned_back_written f l e = file_back W.TurnBack f l e

-- ---- runs

-- a run whose output is a file, with nothing on standard error and status 0
pub record Gives (p : Printed) (file : Option (List ℕ)) : Type 0 where
  pub out : Some p.out ≡ file
  pub err : p.err ≡ []
  pub status : p.status ≡ 0

-- a file that could be read, has at most the bytes that it may have, and has a table that the entry accepts
record Accepts (file : Option (List ℕ)) : Type 0 where
  f : List ℕ
  l : BinTable
  is : file ≡ Some f
  short : ltb table_limit (length f) ≡ false
  entered : entry (header_of f) (data_of f) ≡ accepted l

-- a run with status 0 has accepted its file
module _ (made : BinTable → List ℕ → List ℕ) where
  entry_zero : (f : List ℕ) (x : Entry) → (by_entry (writes made) f x).status ≡ 0 → (l : BinTable) × (x ≡ accepted l)
  entry_zero f (accepted l) z = (l, refl)
  entry_zero f (refused n p) z = absurd (omega (arith, z))

  status_zero : (name : List ℕ) (file : Option (List ℕ)) → (of_table (writes made) name file).status ≡ 0 → Accepts file
  status_zero name None z = absurd (omega (arith, rw empty_refused at z))
  status_zero name (Some f) z =
      either (ltb table_limit (length f))
      (λ t. absurd (omega (arith, rw t at z)))
      (λ t. let q = entry_zero f (entry (header_of f) (data_of f)) (rw t at z) in
      record { f = f; l = q.0; is = refl; short = t; entered = q.1 })

module _ (w : Way) (name again : List ℕ) (file : Option (List ℕ)) where
  accepted_back : Accepts file
      → Gives (of_table (writes (file_by (other w))) again (Some (of_table (writes (file_by w)) name file).out)) file
  accepted_back t =
      let made : (of_table (writes (file_by w)) name file).out ≡ file_by w t.l t.f =
      rw (t.is, t.short, t.entered) refl in
      rw (made, file_length w t.f t.l t.entered, t.short, file_back w t.f t.l t.entered)
      (record { out = sym t.is; err = refl; status = refl })

  table_back : (of_table (writes (file_by w)) name file).status ≡ 0
      → Gives (of_table (writes (file_by (other w))) again (Some (of_table (writes (file_by w)) name file).out)) file
  table_back z = accepted_back (status_zero (file_by w) name file z)

-- the files as the first run finds them, and as the second does: there `again` has what the first one wrote
module _ (name again : List ℕ) (before after : List ℕ → Option (List ℕ)) where
  pub turned_printed : (printed (turn name) before).status ≡ 0 → after again ≡ Some (printed (turn name) before).out
      → Gives (printed (turn_back again) after) (before name)
  turned_printed z e = rw e (table_back W.Turn name again (before name) z)

  pub turned_back_printed : (printed (turn_back name) before).status ≡ 0
      → after again ≡ Some (printed (turn_back name) before).out
      → Gives (printed (turn again) after) (before name)
  turned_back_printed z e = rw e (table_back W.TurnBack name again (before name) z)

  -- and by the arguments of both
  module _ (first second : List (List ℕ)) where
    pub turned_run : asked first ≡ turn name → asked second ≡ turn_back again → (run first before).status ≡ 0
        → after again ≡ Some (run first before).out → Gives (run second after) (before name)
    turned_run a b z e = rw b (turned_printed (rw a at z) (rw a at e))

    pub turned_back_run : asked first ≡ turn_back name → asked second ≡ turn again → (run first before).status ≡ 0
        → after again ≡ Some (run first before).out → Gives (run second after) (before name)
    turned_back_run a b z e = rw b (turned_back_printed (rw a at z) (rw a at e))
