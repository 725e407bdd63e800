-- A page filled line by line.
-- Assumes nothing.
use Rattle.std.specs.Prelude.{Some, None}
use Prim.Native.Nat.{ℕ, ◌+◌, ◌-◌, ◌≤◌, ◌<◌}
use mathlib.Core.Path.{◌≡◌, refl, sym, ◌∙◌}
use mathlib.Core.List.{List, [], ◌∷◌, ◌++◌, append_assoc, append-nil}
use native.Mathlib.Omega.{arith}
use lib.Dec.{leb}
use lib.ListN.{length, take, drop, take-append-drop}
use lib.Seq.{length-take-le, drop-drop}
use borrow.Author.Tests.{le-leb, lt-leb, leb-true, leb-false}
use Rattle.std.proofs.lemmas.Option.{cond_some, none-some}
use Rattle.ascii.proofs.Cases.{either}
use Rattle.ascii.specs.Buffer.{put_in, written, written_to}
use Rattle.ascii.proofs.Lengths.{put_length, take_put, drop_put}
use Rattle.output.specs.Page.{page_text, page_rest}

-- ---- a line that was written, and one that there was no room for

pub record Room (out : List ℕ) (at : ℕ) (t : List ℕ) (e : ℕ) : Type 0 where
  pub room : at + length t ≤ length out
  pub end : e ≡ at + length t
  pub buffer : written out at t ≡ put_in out at t

pub written_to_lem : (out : List ℕ) (at : ℕ) (t : List ℕ) (e : ℕ) → Some e ≡ written_to out at t → Room out at t e
unfolding written written_to
written_to_lem out at t e h =
    let c = cond_some (leb (at + length t) (length out)) (at + length t) e (sym h) in
    record { room = leb-true _ _ c.0; end = sym c.1; buffer = rw c.0 }

pub record Full (out : List ℕ) (at : ℕ) (t : List ℕ) : Type 0 where
  pub full : length out < at + length t
  pub same : written out at t ≡ out

pub no_room : (out : List ℕ) (at : ℕ) (t : List ℕ) → None ≡ written_to out at t → Full out at t
unfolding written written_to
no_room out at t h =
    either (leb (at + length t) (length out))
    (λ b. absurd (none-some (at + length t) (rw b at h)))
    (λ b. record { full = leb-false _ _ b; same = rw b })

-- ---- the page so far: its text stands at the front of the buffer, and what is still to come of the page is what there is room for

pub record Filled (lines left : List (List ℕ)) (out₀ out : List ℕ) (at : ℕ) : Type 0 where
  pub inside : at ≤ length out
  pub length_same : length out ≡ length out₀
  pub back : drop at out ≡ drop at out₀
  pub text : page_text (length out₀) lines ≡ take at out ++ page_text (length out₀ - at) left
  pub rest : page_rest (length out₀) lines ≡ page_rest (length out₀ - at) left
  pub first : at ≡ 0 → left ≡ lines

-- what the page comes to
pub record Ended (lines left : List (List ℕ)) (out₀ out : List ℕ) (at : ℕ) : Type 0 where
  pub len : at ≡ length (page_text (length out₀) lines)
  pub buffer : out ≡ put_in out₀ 0 (page_text (length out₀) lines)
  pub state : left ≡ page_rest (length out₀) lines

module _ (lines left : List (List ℕ)) (out₀ out : List ℕ) (at : ℕ) (f : Filled lines left out₀ out at) where
  -- nothing more goes onto the page
  ends : page_text (length out₀ - at) left ≡ [] → page_rest (length out₀ - at) left ≡ left → Ended lines left out₀ out at
  unfolding put_in
  ends e r =
      let p : page_text (length out₀) lines ≡ take at out = f.text ∙ (rw e (append-nil (take at out))) in
      let q : length (page_text (length out₀) lines) ≡ at = rw p (length-take-le at out f.inside) in
      let z : 0 + at ≡ at = omega arith in
      record { len = sym q; buffer = rw (q, z, p, ← f.back) (sym (take-append-drop at out)); state = sym (f.rest ∙ r) }

module _ (lines : List (List ℕ)) (out₀ out : List ℕ) (at : ℕ) where
  pub ends_none : Filled lines [] out₀ out at → Ended lines [] out₀ out at
  unfolding page_text page_rest
  ends_none f = ends lines [] out₀ out at f refl refl

  pub ends_full : (t : List ℕ) (ts : List (List ℕ)) → Filled lines (t ∷ ts) out₀ out at → length out < at + length t → Ended lines (t ∷ ts) out₀ out at
  unfolding page_text page_rest
  ends_full t ts f h =
      let b = lt-leb (length t) (length out₀ - at) (omega (arith, f.inside, f.length_same)) in
      ends lines (t ∷ ts) out₀ out at f (rw b) (rw b)

  one_more : (t : List ℕ) (ts : List (List ℕ)) → Filled lines (t ∷ ts) out₀ out at → at + length t ≤ length out → 0 < length t
      → Filled lines ts out₀ (put_in out at t) (at + length t)
  unfolding page_text page_rest
  one_more t ts f h k =
      let b = le-leb (length t) (length out₀ - at) (omega (arith, f.length_same)) in
      let z : length out₀ - at - length t ≡ length out₀ - (at + length t) = omega arith in
      record {
        inside = rw (put_length out at t h) h;
        length_same = put_length out at t h ∙ f.length_same;
        back = drop_put out at t h ∙ later;
        text = f.text ∙ rw (b, z, take_put out at t h) (sym (append_assoc (take at out) t (page_text (length out₀ - (at + length t)) ts)));
        rest = f.rest ∙ rw (b, z);
        first = λ e. absurd (omega arith);
      }
    where
      later : drop (at + length t) out ≡ drop (at + length t) out₀
      later = rw (← drop-drop (length t) at out, f.back, drop-drop (length t) at out₀)

  -- one line more, which leaves the buffer `next` and the place e
  pub more_filled : (t : List ℕ) (ts : List (List ℕ)) (next : List ℕ) (e : ℕ) → Filled lines (t ∷ ts) out₀ out at → Room out at t e → next ≡ written out at t → 0 < length t
      → Filled lines ts out₀ next e
  more_filled t ts next e f r w k = rw (w, r.buffer, r.end) (one_more t ts f r.room k)
