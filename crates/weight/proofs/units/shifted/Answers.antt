-- `shifted` meets its contract: from a shift of 32 on less than half a unit is left.
use Rattle.std.proofs.Common.{◌≤◌, ◌^◌, ◌*◌, arith, sym}
use lib.Pow.{pow_mono}
use Rattle.weight.specs.Weight.{decimals}
use Rattle.weight.proofs.Rounded.{rounded_none, rounded_most}
use Rattle.weight.proofs.Long.{scaled_most}
use Rattle.weight.proofs.units.shifted.Goals as goal

pub returns-then-shift-ge-NOTHING_LEFT-clause-units : goal.returns-then-shift-ge-NOTHING_LEFT-clause-units
returns-then-shift-ge-NOTHING_LEFT-clause-units c =
    let a = c.args in
    let l : 2 ^ 32 ≤ 2 ^ a.shift = pow_mono {i = 32} {j = a.shift} (omega arith) in
    sym (rounded_none a.edition (a.significand * 10 ^ decimals a.edition) (2 ^ a.shift)
    (omega (arith, scaled_most a.edition a.significand)))

pub returns-clause-bound : goal.returns-clause-bound
returns-clause-bound c =
    let a = c.args in
    let h = rw c.scale.ensures at c.rounded.ensures in
    let m = rounded_most a.edition (a.significand * 10 ^ decimals a.edition) (2 ^ a.shift) in
    omega (arith, scaled_most a.edition a.significand)
