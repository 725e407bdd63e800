-- `put_hex` meets its contract: with no place left, all the digits are set down.
use Rattle.std.proofs.Common.{◌≡◌, ℕ, List, ◌++◌, length, take, ap, ◌∙◌, arith}
use lib.ListN.{length-set}
use lib.Seq.{slice}
use Rattle.listing.specs.Text.{hex_text}
use Rattle.listing.proofs.Lengths.{hex_length}
use Rattle.listing.proofs.Turns.{hex_turn}
use Rattle.listing.proofs.writer.Writer.put_hex.Goals as goal

pub loop-i-preserved : goal.loop-i-preserved
loop-i-preserved c =
    let l = c.loop-i in
    let a = c.args in record {
      long = simp length-set l.invariant.long;
      within = omega arith;
      text = hex_turn l.i a.width l.rest c.hex_digit.result l.digits c.loop-i-test.true l.invariant.within (omega arith) c.hex_digit.ensures ∙ l.invariant.text;
    }

set_down : (i k rest : ℕ) (t : List ℕ) → i ≡ 0 → take k t ≡ hex_text i rest ++ slice i k t
unfolding hex_text
set_down i k rest t e = rw e

pub returns-clause-text : goal.returns-clause-text
returns-clause-text c =
    let l = c.loop-i in
    let a = c.args in
    let e = set_down l.i a.width l.rest l.digits (omega arith) ∙ l.invariant.text in
    let n : length (take a.width l.digits) ≡ a.width = ap length e ∙ hex_length a.width a.n in
    c.put.ensures.text (omega (arith, n)) ∙ ap (λ (t : List ℕ). a.self.now ++ t) e
