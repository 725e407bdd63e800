-- `columns` meets its contract: each turn puts one bit below those that the choice has, set if the column is wanted.
use Rattle.std.proofs.Common.{◌≡◌, ℕ, Bool, true, false, cond, suc, ◌+◌, ◌-◌, ◌*◌, ◌<◌, ◌≤◌, ◌^◌, sym, ◌∙◌, refl, arith}
use native.Mathlib.Nat.{lt_of_lt_of_le, pow-zero, pow-succ'}
use lib.Pow.{pow_mono}
use mir.Val.{bool_byte}
use Rattle.walk.proofs.Choice.{choice_back, choice_end}
use Rattle.table.proofs.choice.columns.Goals as goal

-- a flag as a bit
bit_is : (b : Bool) → bool_byte b ≡ cond b 1 0
bit_is true = refl
bit_is false = refl

bit_few : (b : Bool) → bool_byte b ≤ 1
bit_few true = omega arith
bit_few false = omega arith

-- one bit more
module _ (n c m b : ℕ) (some : 0 < c) (within : c ≤ n) (h : m < 2 ^ (n - c)) (few : b ≤ 1) where
  grows : m * 2 + b < 2 ^ (n - (c - 1))
  grows =
      let e : n - (c - 1) ≡ suc (n - c) = omega arith in
      rw (e, pow-succ' 2 (n - c)) (omega (arith, h, few))

  fits : n ≤ 64 → m * 2 + b < 2 ^ 64
  fits k = lt_of_lt_of_le grows (pow_mono {i = n - (c - 1)} {j = 64} (omega arith))

pub loop-c-init : goal.loop-c-init
loop-c-init g c =
    let e : c.args.tfields - c.args.tfields ≡ 0 = omega arith in
    record {
      within = omega arith;
      room = rw (e, pow-zero) (omega arith);
      so_far = λ s w. sym (choice_end s c.args.tfields);
    }

pub loop-c-preserved : goal.loop-c-preserved
loop-c-preserved g c =
    let r = c.loop-c.invariant in
    let few : c.from.result ≤ 1 = rw c.from.ensures (bit_few c.wanted.result) in
    record {
      within = omega arith;
      room = grows c.args.tfields c.loop-c.c c.loop-c.choice _ c.loop-c-test.true r.within r.room few;
      so_far = λ s w.
          let bit : c.from.result ≡ cond c.wanted.result 1 0 = c.from.ensures ∙ bit_is c.wanted.result in
          rw (choice_back s c.args.tfields c.loop-c.c c.loop-c-test.true r.within, ← w (c.loop-c.c - 1) c.wanted.result (omega arith) c.wanted.ensures)
          (omega (arith, bit, r.so_far s w));
    }
