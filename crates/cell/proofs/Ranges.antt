-- An item of B, I, J or K is a number of its type's range, where the area holds bytes, and so is its stored number.
-- Assumes nothing.
use Prim.Native.Nat.{ℕ, ◌^◌, ◌<◌}
use mathlib.Core.Path.{◌≡◌, sym, subst}
use mathlib.Core.List.{List}
use lib.ListN.{get_or}
use lib.IntN.{ℤ, pos}
use Rattle.std.specs.Prelude.{Some, FitsSigned}
use Rattle.std.proofs.Common.{to_z}
use Rattle.std.specs.Int.{w16, w32, w64}
use Rattle.std.proofs.Math.Facts.{sfits_to_z}
use Rattle.tform.specs.declared.VariableArrayTy.{VariableArrayTy}
use Rattle.tform.specs.declared.VariableArrayTy.TheVariants as T
use Rattle.cell.specs.declared.DataValue.{DataValue}
use Rattle.cell.specs.declared.DataValue.TheVariants as D
use Rattle.cell.specs.Item.{word, raw_item, stored_number}
use Rattle.cell.proofs.Numbers.{word_below}

-- a whole number of a type is in the type's range
abbrev pub InRange : DataValue → Type 0
InRange (D.UnsignedByte n) = n < 2 ^ 8
InRange (D.Short z) = FitsSigned w16 z
InRange (D.Integer z) = FitsSigned w32 z
InRange (D.Long z) = FitsSigned w64 z
InRange _ = Unit {0}

-- the whole numbers that an item of a type can store; an item of another type stores none
abbrev pub Storable : VariableArrayTy → ℤ → Type 0
Storable T.B z = (n : ℕ) × (z ≡ pos n) × (n < 2 ^ 8)
Storable T.I z = FitsSigned w16 z
Storable T.J z = FitsSigned w32 z
Storable T.K z = FitsSigned w64 z
Storable _ z = ⊥

module _ (a : List ℕ) (below : (i : ℕ) → get_or a i 0 < 256) where
  pub item_range : (ty : VariableArrayTy) (p : ℕ) → InRange (raw_item ty a p)
  item_range T.L p = tt
  item_range T.X p = tt
  item_range T.B p = word_below a below p 1
  item_range T.I p = sfits_to_z (record { fits = word_below a below p 2 })
  item_range T.J p = sfits_to_z (record { fits = word_below a below p 4 })
  item_range T.K p = sfits_to_z (record { fits = word_below a below p 8 })
  item_range T.A p = tt
  item_range T.E p = tt
  item_range T.D p = tt
  item_range T.C p = tt
  item_range T.M p = tt

  -- so its stored number is one that its type can store
  pub stored_range : (ty : VariableArrayTy) (p : ℕ) (z : ℤ) → stored_number (raw_item ty a p) ≡ Some z → Storable ty z
  stored_range T.B p z e = let q : pos (word a p 1) ≡ z = cc in (word a p 1, sym q, item_range T.B p)
  stored_range T.I p z e = let q : to_z w16 (word a p 2) ≡ z = cc in subst (FitsSigned w16) q (item_range T.I p)
  stored_range T.J p z e = let q : to_z w32 (word a p 4) ≡ z = cc in subst (FitsSigned w32) q (item_range T.J p)
  stored_range T.K p z e = let q : to_z w64 (word a p 8) ≡ z = cc in subst (FitsSigned w64) q (item_range T.K p)
  stored_range T.L p z e = cc
  stored_range T.X p z e = cc
  stored_range T.A p z e = cc
  stored_range T.E p z e = cc
  stored_range T.D p z e = cc
  stored_range T.C p z e = cc
  stored_range T.M p z e = cc
