-- A field without items, as those of P or Q with count 0 are, has no entry, with the heap on or off. A field that takes
-- no bytes has no items.
-- Assumes nothing.
use Prim.Native.Nat.{ℕ}
use mathlib.Core.Path.{◌≡◌}
use mathlib.Core.Bool.{Bool}
use mathlib.Core.List.{List}
use native.Mathlib.Nat.{mul-le-mul_left}
use native.Mathlib.Omega.{arith}
use borrow.Author.Tests.{eq-eqb}
use Rattle.ascii.specs.Text.{bytes}
use Rattle.tform.specs.declared.TFormType.{TFormType}
use Rattle.tform.specs.declared.TFormType.TheVariants as F
use Rattle.tform.specs.Width.{among, letter_width, items, field_items, field_bytes}
use Rattle.layout.specs.declared.Column.{Column}
use Rattle.layout.specs.Layout.{column_bytes}
use Rattle.cell.specs.Field.{field_by, field, size_of}
use Rattle.cell.proofs.Widths.{width_pos}

pub field_none : (a : List ℕ) (p : ℕ) (heap : Bool) (theap end : ℕ) (f : TFormType) (n : ℕ) → field_items f n ≡ 0
    → size_of (field_by a p f n heap theap end) ≡ 0
field_none a p heap theap end (F.Items ty) n e = e
field_none a p heap theap end (F.P ty) n e = rw (eq-eqb n 0 e)
field_none a p heap theap end (F.Q ty) n e = rw (eq-eqb n 0 e)

no_items : (f : TFormType) (n : ℕ) → field_bytes f n ≡ 0 → field_items f n ≡ 0
unfolding letter_width among bytes
no_items (F.Items ty) n e = omega (arith, e, mul-le-mul_left (items ty n) (width_pos ty))
no_items (F.P ty) n e = omega (arith, e)
no_items (F.Q ty) n e = omega (arith, e)

pub empty_field : (a : List ℕ) (p : ℕ) (column : Column) (heap : Bool) (theap end : ℕ) → column_bytes column ≡ 0
    → size_of (field a p column heap theap end) ≡ 0
unfolding field
empty_field a p column heap theap end e =
    field_none a p heap theap end column.form column.count (no_items column.form column.count e)
