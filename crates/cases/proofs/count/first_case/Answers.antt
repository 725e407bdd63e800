-- `first_case` meets its contract: what is split off is the bytes between two places.
use Rattle.std.proofs.Common.{ℕ, List, ◌≡◌, ◌+◌, ◌-◌, arith, take, drop}
use lib.Seq.{drop-drop}
use Rattle.cases.specs.Cases.{part}
use Rattle.cases.proofs.count.first_case.Goals as goal

-- n bytes at the front of the rest x from place i on, and what stands after them
module _ (b x : List ℕ) (i n : ℕ) (e : x ≡ drop i b) where
  split_part : (y : List ℕ) → y ≡ take n x → y ≡ part i (i + n) b
  split_part y f = let s : i + n - i ≡ n = omega arith in rw (f, e, s)

  split_rest : (z : List ℕ) → z ≡ drop n x → z ≡ drop (i + n) b
  split_rest z f = rw (f, e) (drop-drop n i b)

pub returns : goal.returns
returns c =
    let b = c.args.bytes.now in
    let h = c.in_ok-rest.ensures.cases in
    let t = c.in_ok-table.ensures.cases in
    let s = c.in_ok-steps.ensures.cases in
    let x = c.in_ok-text.ensures.cases in
    let u = c.length_at.ensures in
    let v = c.length_at-2.ensures in
    let w = c.length_at-3.ensures in
    let d = split_rest b _ _ _ h.2 _ t.2 in
    let e = split_rest b _ _ _ d _ s.2 in record {
      whole = omega (arith, h.4, t.4, s.4, x.0, u, v, w);
      table = rw (← u) (split_part b _ _ _ h.2 _ t.1);
      steps = rw (← u, ← v) (split_part b _ _ _ d _ s.1);
      text = rw (← u, ← v, ← w) (split_part b _ _ _ e _ x.1);
      rest = rw (← u, ← v, ← w) (split_rest b _ _ _ e _ x.2);
    }
