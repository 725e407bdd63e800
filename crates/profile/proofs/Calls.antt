-- What the contract of `put_page` comes to: which refusals there are, that a refusal leaves the buffer, and that the
-- page stands at the front of the buffer, whose other bytes stay.
-- Assumes nothing.
use Rattle.std.proofs.Common.{ℕ, ◌≡◌, ◌*◌, ◌<◌, ◌≤◌, true, false, List, length, take, drop}
use Rattle.std.proofs.Common.{refl, sym, ap, ◌∙◌, arith}
use Rattle.std.specs.Prelude.{Option, Some, None, is_some}
use mathlib.Core.Bool.{and-false}
use Rattle.std.proofs.lemmas.Bool.{ltb-true, leb-true, lt-ltb, le-ltb, le-leb, lt-leb}
use borrow.Author.Tests.{ltb-false, leb-false}
use lib.Dec.{eqb, ltb, leb}
use Rattle.ascii.specs.Buffer.{put_in}
use Rattle.ascii.proofs.Cases.{either}
use Rattle.ascii.proofs.Chain.{front}
use Rattle.tform.specs.Width.{form_letter}
use Rattle.layout.specs.declared.BinTable.{BinTable}
use Rattle.walk.specs.Plain.{column_of}
use Rattle.walk.specs.Step.{fits}
use Rattle.walk.proofs.Inside.{fits_layout}
use Rattle.weight.specs.declared.Edition.{Edition}
use Rattle.profile.specs.Page.{profile_page, edition_of, page_column, page_in, wrote, refused, page_reply, page_left}
use Rattle.profile.proofs.Puts.{rest_put}
use Rattle.profile.proofs.Fits.{page_length}

-- the bytes of a page of column c
abbrev pub page_bytes : BinTable → ℕ → ℕ
page_bytes l c = 27 * (column_of l c).count

module _ (l : BinTable) (a : List ℕ) (c r number room : ℕ) where
  -- a layout and an area that do not belong together are refused, whatever the rest is; then an edition or a column
  -- that is none; then a row that is none; then a buffer that is too short; nothing else is
  pub record Refusals : Type 0 where
    pub mismatch : fits l a ≡ false → page_reply l a c r number room ≡ refused 10 0
    pub no_edition : fits l a ≡ true → edition_of number ≡ None → page_reply l a c r number room ≡ refused 15 0
    pub no_column : fits l a ≡ true → page_column l c ≡ false → page_reply l a c r number room ≡ refused 15 0
    pub no_row : (ed : Edition) → fits l a ≡ true → edition_of number ≡ Some ed → page_column l c ≡ true
        → l.naxis2 ≤ r → page_reply l a c r number room ≡ refused 12 r
    pub short : (ed : Edition) → fits l a ≡ true → edition_of number ≡ Some ed → page_column l c ≡ true
        → r < l.naxis2 → room < page_bytes l c → page_reply l a c r number room ≡ refused 14 (page_bytes l c)
    pub none : (ed : Edition) → fits l a ≡ true → edition_of number ≡ Some ed → page_column l c ≡ true
        → r < l.naxis2 → page_bytes l c ≤ room → page_reply l a c r number room ≡ wrote (page_bytes l c)

  -- the page's length, where there is one
  page_size : (ed : Edition) → fits l a ≡ true → edition_of number ≡ Some ed → page_column l c ≡ true → r < l.naxis2
      → length (page_in l a c r (edition_of number)) ≡ page_bytes l c
  page_size ed f e t h = rw e (page_length l (fits_layout l a f) c t a r h ed)

  pub page_refusals : Refusals
  unfolding page_reply
  page_refusals =
      record {
        mismatch = λ f. rw f refl;
        no_edition = λ f e. rw (f, e) refl;
        no_column = λ f t. rw (f, t, and-false (is_some (edition_of number))) refl;
        no_row = λ ed f e t h. rw (f, e, t, le-ltb r l.naxis2 h) refl;
        short = λ ed f e t h s.
            rw (page_size ed f e t h, f, e, t, lt-ltb r l.naxis2 h, lt-leb (page_bytes l c) room s) refl;
        none = λ ed f e t h s.
            rw (page_size ed f e t h, f, e, t, lt-ltb r l.naxis2 h, le-leb (page_bytes l c) room s) refl;
      }

  -- where the call writes, all is good
  pub record Written (n : ℕ) : Type 0 where
    pub ed : Edition
    pub fitting : fits l a ≡ true
    pub edition : edition_of number ≡ Some ed
    pub column : page_column l c ≡ true
    pub row : r < l.naxis2
    pub size : n ≡ page_bytes l c
    pub fills : length (profile_page l a c r ed) ≡ n
    pub inside : n ≤ room

  pub written_is : (n : ℕ) → page_reply l a c r number room ≡ wrote n → Written n
  written_is n w = either (fits l a) good (λ f. absurd (differ (sym (page_refusals.mismatch f) ∙ w)))
    where
      differ : {k p m : ℕ} → refused k p ≡ wrote m → ⊥
      differ e = cc

      same : {k m : ℕ} → wrote k ≡ wrote m → k ≡ m
      same e = cc

      good : fits l a ≡ true → Written n
      good f = by_edition (edition_of number) refl
        where
          by_edition : (x : Option Edition) → edition_of number ≡ x → Written n
          by_edition None e = absurd (differ (sym (page_refusals.no_edition f e) ∙ w))
          by_edition (Some ed) e =
              either (page_column l c)
              (λ t. either (ltb r l.naxis2)
              (λ h. either (leb (page_bytes l c) room)
              (λ s. let inside = ltb-true r l.naxis2 h in
              let is : n ≡ page_bytes l c =
              sym (same (sym (page_refusals.none ed f e t inside (leb-true (page_bytes l c) room s)) ∙ w)) in
              record {
                ed = ed;
                fitting = f;
                edition = e;
                column = t;
                row = inside;
                size = is;
                fills = page_length l (fits_layout l a f) c t a r inside ed ∙ sym is;
                inside = omega (arith, leb-true (page_bytes l c) room s);
              })
              (λ s. absurd (differ (sym (page_refusals.short ed f e t (ltb-true r l.naxis2 h)
              (leb-false (page_bytes l c) room s)) ∙ w))))
              (λ h. absurd (differ (sym (page_refusals.no_row ed f e t (ltb-false r l.naxis2 h)) ∙ w))))
              (λ t. absurd (differ (sym (page_refusals.no_column f t) ∙ w)))

-- the n bytes of a page are written: it stands at the front, and what is behind it is as it was
pub record Filled (l : BinTable) (a : List ℕ) (c r number : ℕ) (buffer : List ℕ) (n : ℕ) : Type 0 where
  pub ed : Edition
  pub edition : edition_of number ≡ Some ed
  pub size : n ≡ page_bytes l c
  pub front : take n (page_left l a c r number buffer) ≡ profile_page l a c r ed
  pub rest : drop n (page_left l a c r number buffer) ≡ drop n buffer

module _ (l : BinTable) (a : List ℕ) (c r number : ℕ) (buffer : List ℕ) where
  -- a refusal leaves the buffer
  pub page_refused : (k p : ℕ) → page_reply l a c r number (length buffer) ≡ refused k p
      → page_left l a c r number buffer ≡ buffer
  unfolding page_left
  page_refused k p e = rw e refl

  module _ (n : ℕ) (w : page_reply l a c r number (length buffer) ≡ wrote n) where
    pub page_put : (ed : Edition) → edition_of number ≡ Some ed
        → page_left l a c r number buffer ≡ put_in buffer 0 (profile_page l a c r ed)
    unfolding page_left
    page_put ed e = rw (w, e) refl

    pub page_rest : Filled l a c r number buffer n
    page_rest =
        let q = written_is l a c r number (length buffer) n w in
        let t : List ℕ = profile_page l a c r q.ed in
        let put = page_put q.ed q.edition in
        record {
          ed = q.ed;
          edition = q.edition;
          size = q.size;
          front = front buffer t q.inside (omega (arith, q.fills), put);
          rest = ap (drop n) put ∙ rest_put buffer t n q.fills q.inside;
        }

-- a page without lines
pub no_lines : (l : BinTable) (a : List ℕ) (c r number : ℕ) (ed : Edition) (buffer : List ℕ) → fits l a ≡ true
    → edition_of number ≡ Some ed → page_column l c ≡ true → r < l.naxis2 → (column_of l c).count ≡ 0
    → (page_reply l a c r number (length buffer) ≡ wrote 0) × (page_left l a c r number buffer ≡ buffer)
no_lines l a c r number ed buffer f e t h z =
    let none : page_bytes l c ≡ 0 = omega arith in
    let w = (page_refusals l a c r number (length buffer)).none ed f e t h (omega (arith, none)) ∙ ap wrote none in
    (w, (page_rest l a c r number buffer 0 w).rest)

-- a column with TSCALn or TZEROn has no page
pub scaled_page : (l : BinTable) (a : List ℕ) (c r number room : ℕ) → fits l a ≡ true → (column_of l c).scaling_given ≡ true
    → page_reply l a c r number room ≡ refused 15 0
scaled_page l a c r number room f s =
    (page_refusals l a c r number room).no_column f (rw (s, and-false (eqb (form_letter (column_of l c).form) 69), and-false (ltb c l.tfields)))
