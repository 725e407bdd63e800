-- `fill_page` meets its contract: the page ends where no line is left, or where there is no room for the next one.
use Rattle.std.proofs.Common.{◌≡◌, ◌∙◌, ◌+◌, ◌<◌, sym, subst, List, [], ◌∷◌, ℕ, length, arith}
use Rattle.listing.specs.Lines.{line_text}
use Rattle.listing.proofs.Short.{line_some, line_short}
use Rattle.output.specs.Next.{left_in}
use Rattle.output.proofs.Filling.{written_to_lem, no_room, Filled, Full, Ended, ends_none, ends_full, more_filled}
use Rattle.output.proofs.Parts.fill_page.Goals.{In_default, In_default-written}
use Rattle.output.proofs.Parts.fill_page.Goals as goal

module _ (lines now : List (List ℕ)) (out₀ out : List ℕ) (at : ℕ) (f : Filled lines now out₀ out at) where
  -- no line is left
  over : [] ≡ now → Ended lines now out₀ out at
  over e =
      subst (λ (x : List (List ℕ)). Ended lines x out₀ out at) e
      (ends_none lines out₀ out at (subst (λ (x : List (List ℕ)). Filled lines x out₀ out at) (sym e) f))

  -- line t, and what is left after it
  module _ (t : List ℕ) (ts : List (List ℕ)) (e : t ∷ ts ≡ now) where
    filled : Filled lines (t ∷ ts) out₀ out at
    filled = subst (λ (x : List (List ℕ)). Filled lines x out₀ out at) (sym e) f

    full : length out < at + length t → Ended lines now out₀ out at
    full h = subst (λ (x : List (List ℕ)). Ended lines x out₀ out at) e (ends_full lines out₀ out at t ts filled h)

-- no line is next
none_left : (c : In_default) → Ended (left_in c.args.self.now c.args.state) (left_in c.args.self.now c.loop-line.current) c.args.out.now c.loop-line.out c.loop-line.len
none_left c = over _ _ _ _ _ c.loop-line.invariant (rw c.in_default.is at c.next_line-next.ensures)

-- there is no room for the next line
module _ (c : In_default-written) where
  abbrev next : List ℕ
  next = line_text c.args.self.now.header.now c.args.self.now.layout.now c.in-Some.field-0.line

  short : Full c.loop-line.out c.loop-line.len next
  short = no_room c.loop-line.out c.loop-line.len next (sym c.in_default-written.is ∙ c.put_line_of-written.ensures.to)

  ended : Ended (left_in c.args.self.now c.args.state) (left_in c.args.self.now c.loop-line.current) c.args.out.now c.loop-line.out c.loop-line.len
  ended = full _ _ _ _ _ c.loop-line.invariant _ _ (rw c.in-Some.is at c.next_line-next.ensures) short.full

pub returns-in_default-clause-len : goal.returns-in_default-clause-len
returns-in_default-clause-len c = (none_left (goal.at.returns-in_default-clause-len c).In_default).len

pub returns-in_default-clause-buffer : goal.returns-in_default-clause-buffer
returns-in_default-clause-buffer c = (none_left (goal.at.returns-in_default-clause-buffer c).In_default).buffer

pub returns-in_default-clause-state : goal.returns-in_default-clause-state
returns-in_default-clause-state c = (none_left (goal.at.returns-in_default-clause-state c).In_default).state

pub returns-in_default-written-clause-len : goal.returns-in_default-written-clause-len
returns-in_default-written-clause-len c = (ended (goal.at.returns-in_default-written-clause-len c).In_default-written).len

pub returns-in_default-written-clause-buffer : goal.returns-in_default-written-clause-buffer
returns-in_default-written-clause-buffer c =
    let d = (goal.at.returns-in_default-written-clause-buffer c).In_default-written in
    c.put_line_of-written.ensures.buffer ∙ (short d).same ∙ (ended d).buffer

pub returns-in_default-written-clause-state : goal.returns-in_default-written-clause-state
returns-in_default-written-clause-state c = (ended (goal.at.returns-in_default-written-clause-state c).In_default-written).state

pub returns-in_default-written-clause-whole : goal.returns-in_default-written-clause-whole
returns-in_default-written-clause-whole c room none =
    let d = (goal.at.returns-in_default-written-clause-whole c).In_default-written in
    absurd (omega (arith, (short d).full, line_short c.args.self.now.header.now c.args.self.now.layout.now c.in-Some.field-0.line, c.loop-line.invariant.length_same))

pub loop-line-preserved : goal.loop-line-preserved
loop-line-preserved c =
    let t = line_text c.args.self.now.header.now c.args.self.now.layout.now c.in-Some.field-0.line in
    let r = written_to_lem c.loop-line.out c.loop-line.len t c.in-Some-written.end
    (sym c.in-Some-written.is ∙ c.put_line_of-written.ensures.to) in
    more_filled _ _ _ _ t _ c.put_line_of-written.new.out c.in-Some-written.end
    (filled _ _ _ _ _ c.loop-line.invariant _ _ (rw c.in-Some.is at c.next_line-next.ensures))
    r c.put_line_of-written.ensures.buffer (line_some c.args.self.now.header.now c.args.self.now.layout.now c.in-Some.field-0.line)
