-- An item has one byte at least.
-- Assumes nothing.
use Prim.Native.Nat.{◌≤◌}
use native.Mathlib.Omega.{arith}
use Rattle.ascii.specs.Text.{bytes}
use Rattle.tform.specs.declared.VariableArrayTy.{VariableArrayTy}
use Rattle.tform.specs.declared.VariableArrayTy.TheVariants as T
use Rattle.tform.specs.Width.{among, letter_width}
use Rattle.cell.specs.Item.{width}

pub width_pos : (ty : VariableArrayTy) → 1 ≤ width ty
unfolding letter_width among bytes
width_pos T.L = omega arith
width_pos T.X = omega arith
width_pos T.B = omega arith
width_pos T.I = omega arith
width_pos T.J = omega arith
width_pos T.K = omega arith
width_pos T.A = omega arith
width_pos T.E = omega arith
width_pos T.D = omega arith
width_pos T.C = omega arith
width_pos T.M = omega arith
