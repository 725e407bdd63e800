-- A page in the buffer: how many bytes it has, what the buffer then holds, and what is printed.
-- Assumes nothing.
use Rattle.std.proofs.Common.{ℕ, ◌≡◌, ◌≤◌, List, length, take, refl, sym, ap, ◌∙◌, arith}
use Rattle.std.specs.Prelude.{Option, Some, None}
use Rattle.ascii.specs.Buffer.{put_in}
use Rattle.ascii.proofs.Chain.{front}
use Rattle.refusal.specs.Refusal.{cause_of}
use Rattle.header.specs.Records.{data_of}
use Rattle.layout.specs.declared.BinTable.{BinTable}
use Rattle.profile.specs.Page as P
use Rattle.profile.proofs.Calls.{written_is}
use Rattle.subcommand.specs.Message.{page_words}
use Rattle.subcommand.specs.Printed.{page_limit, done, refused_by, by_reply, page_of}
use Rattle.subcommand.specs.Ways.{reply_for, page_for, left_for}

-- the page of a column that may not be there has as many bytes as the call says, which end within the buffer
sought_length : (l : BinTable) (a : List ℕ) (c : Option ℕ) (r n len : ℕ) → reply_for l a c r n ≡ P.wrote len
    → (len ≡ length (page_for l a c r n)) × (len ≤ page_limit)
sought_length l a None r n len e = cc
sought_length l a (Some c) r n len e =
    let q = written_is l a c r n page_limit len e in
    rw q.edition (sym q.fills, q.inside)

-- the buffer after the call
pub sought_left : (l : BinTable) (a : List ℕ) (c r n : ℕ) (out : List ℕ) → length out ≡ page_limit
    → P.page_left l a c r n out ≡ left_for l a (Some c) r n out
unfolding P.page_left
sought_left l a c r n out size = rw size refl

-- what is printed goes by the call's answer, also where there is no column
page_by : (l : BinTable) (f : List ℕ) (c : Option ℕ) (r n : ℕ)
    → page_of r n l f c
    ≡ by_reply (page_for l (data_of f) c r n) (λ k p. page_words l f c n (cause_of k p))
    (reply_for l (data_of f) c r n)
page_by l f None r n = refl
page_by l f (Some c) r n = refl

module _ (l : BinTable) (f : List ℕ) (c : Option ℕ) (r n : ℕ) where
  -- what is printed where the call wrote the page
  pub page_done : (len : ℕ) (out new : List ℕ) → length out ≡ page_limit
      → P.wrote len ≡ reply_for l (data_of f) c r n → new ≡ left_for l (data_of f) c r n out
      → (done (take len new) ≡ page_of r n l f c) × (len ≡ length (page_of r n l f c).out)
      × (new ≡ put_in out 0 (page_of r n l f c).out)
  page_done len out new size e kept =
      let t = page_for l (data_of f) c r n in
      let q = sought_length l (data_of f) c r n len (sym e) in
      let put : new ≡ put_in out 0 t = kept ∙ rw (sym e) refl in
      let text : take len new ≡ t = front out t (omega (arith, q.1, size)) (omega (arith, q.0), put) in
      rw (page_by l f c r n, sym e) (ap done text, q.0, put)

  -- and where it refused
  pub page_not : (k p : ℕ) → P.refused k p ≡ reply_for l (data_of f) c r n
      → refused_by (page_words l f c n (cause_of k p)) k p ≡ page_of r n l f c
  page_not k p e = rw (page_by l f c r n, sym e) refl
