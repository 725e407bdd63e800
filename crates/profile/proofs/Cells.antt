-- The page shows the cells that the cursor hands out in the plain reading, and nothing of the area but the field of its column and row.
-- Assumes nothing.
use Rattle.std.proofs.Common.{ℕ, ◌≡◌, ◌+◌, ◌*◌, ◌<◌, ◌≤◌, Bool, true, List, get_or, refl, ap, arith}
use Rattle.std.specs.Float.{binary32}
use Rattle.std.specs.Float.Ieee.{of_bits}
use Rattle.ascii.proofs.Pieces.{same_pieces}
use Rattle.tform.specs.declared.VariableArrayTy.TheVariants as T
use Rattle.tform.specs.declared.TFormType.{TFormType}
use Rattle.layout.specs.declared.BinTable.{BinTable}
use Rattle.layout.specs.Layout.{column_bytes, data_size}
use Rattle.cell.specs.declared.DataValue.TheVariants as D
use Rattle.cell.specs.declared.Field.TheVariants as F
use Rattle.cell.specs.Item.{width, item}
use Rattle.cell.specs.Field.{field_by, field}
use Rattle.cell.proofs.Same.{word_same}
use Rattle.walk.specs.Plain.{column_of, field_at, field_of, item_at, chosen, cells, entries_of, column_entries}
use Rattle.weight.specs.declared.Edition.{Edition}
use Rattle.weight.specs.Weight.{weight_text}
use Rattle.profile.specs.Page.{profile_line, bits_at, weight_at, profile_page, page_column}
use Rattle.profile.proofs.Fits.{e_width, e_bytes, column_form}

-- what the field of an E column stands for in the plain list, with the heap on or off
pub e_field : (l : BinTable) (a : List ℕ) (heap : Bool) (r c : ℕ) → page_column l c ≡ true
    → field_of l a heap r c ≡ F.Items T.E (field_at l r c) (column_of l c).count
unfolding field_of field
e_field l a heap r c e =
    ap (λ (f : TFormType). field_by a (field_at l r c) f (column_of l c).count heap l.theap (data_size l))
    (column_form l c e)

-- and its item i: the float of the bits that line i shows the weight of
pub cell_bits : (l : BinTable) (a : List ℕ) (r c i : ℕ)
    → item_at (column_of l c) a T.E (field_at l r c) i
    ≡ D.Float (of_bits binary32 (bits_at l a c r i)) (bits_at l a c r i)
unfolding item
cell_bits l a r c i = refl

-- so the entries of the column in the row, which the cursor hands out, are those floats, by index
pub e_entries : (l : BinTable) (a : List ℕ) (choice : ℕ) (heap : Bool) (r c : ℕ) → chosen choice c ≡ true
    → page_column l c ≡ true
    → column_entries l a choice heap r c
    ≡ cells r c (λ i. D.Float (of_bits binary32 (bits_at l a c r i)) (bits_at l a c r i)) 0 (column_of l c).count
unfolding column_entries entries_of item
e_entries l a choice heap r c t e = rw (t, e_field l a heap r c e) refl

-- two areas with the same bytes in the field have the same page
pub page_same : (l : BinTable) (a b : List ℕ) (c r : ℕ) (ed : Edition) → page_column l c ≡ true
    → ((p : ℕ) → field_at l r c ≤ p → p < field_at l r c + column_bytes (column_of l c) → get_or a p 0 ≡ get_or b p 0)
    → profile_page l a c r ed ≡ profile_page l b c r ed
unfolding profile_page
page_same l a b c r ed e h =
    same_pieces (λ i. profile_line r i (weight_at l a c r ed i)) (λ i. profile_line r i (weight_at l b c r ed i))
    0 (column_of l c).count
    (λ i q. ap (λ (w : ℕ). profile_line r i (weight_text ed (of_bits binary32 w))) (bits i (omega arith)))
  where
    bits : (i : ℕ) → i < (column_of l c).count → bits_at l a c r i ≡ bits_at l b c r i
    bits i q =
        let at : i * width T.E ≡ i * 4 = ap (λ (k : ℕ). i * k) e_width in
        word_same a b (field_at l r c + i * width T.E) 4
        (λ p m n. h p (omega arith) (omega (arith, at, e_bytes l c e)))
