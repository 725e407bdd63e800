-- A row, an index and a weight always fit their places, so each line of a page has 27 bytes.
-- Assumes nothing.
use Rattle.std.proofs.Common.{Bool, not, ◌&&◌, ℕ, ◌≡◌, ◌*◌, ◌<◌, ◌≤◌, true, List, length, refl, ap, ◌∙◌, arith}
use Rattle.std.proofs.lemmas.Bool.{and_parts, ltb-true}
use lib.Dec.{eqb, ltb}
use Rattle.ascii.specs.Text.{bytes}
use Rattle.ascii.specs.Number.{decimal_text}
use Rattle.ascii.proofs.Pieces.{pieces_length}
use Rattle.tform.specs.declared.TFormType.{TFormType}
use Rattle.tform.specs.declared.TFormType.TheVariants as F
use Rattle.tform.specs.declared.VariableArrayTy.TheVariants as T
use Rattle.tform.specs.Width.{among, letter_width, form_letter, field_bytes}
use Rattle.layout.specs.declared.BinTable.{BinTable}
use Rattle.layout.specs.Layout.{column_bytes, layout_ok}
use Rattle.layout.proofs.Sizes.{limits}
use Rattle.cell.specs.Item.{width}
use Rattle.walk.specs.Plain.{column_of}
use Rattle.walk.proofs.Inside.{column_in_row}
use Rattle.weight.specs.declared.Edition.{Edition}
use Rattle.weight.proofs.Width.{weight_length}
use Rattle.profile.specs.Page.{profile_line, weight_at, profile_page, page_column}
use Rattle.profile.proofs.Widths.{row_short, idx_short, line_length, Fields, line_fields}

-- an E item has four bytes
pub e_width : width T.E ≡ 4
unfolding letter_width among bytes
e_width = refl

e_form : (f : TFormType) → eqb (form_letter f) 69 ≡ true → f ≡ F.Items T.E
e_form (F.Items T.L) e = cc
e_form (F.Items T.X) e = cc
e_form (F.Items T.B) e = cc
e_form (F.Items T.I) e = cc
e_form (F.Items T.J) e = cc
e_form (F.Items T.K) e = cc
e_form (F.Items T.A) e = cc
e_form (F.Items T.E) e = refl
e_form (F.Items T.D) e = cc
e_form (F.Items T.C) e = cc
e_form (F.Items T.M) e = cc
e_form (F.P t) e = cc
e_form (F.Q t) e = cc

module _ (l : BinTable) (c : ℕ) (e : page_column l c ≡ true) where
  abbrev is_e : Bool
  is_e = eqb (form_letter (column_of l c).form) 69

  parts : (ltb c l.tfields ≡ true) × ((is_e && not (column_of l c).scaling_given) ≡ true)
  parts = and_parts (ltb c l.tfields) (is_e && not (column_of l c).scaling_given) e

  pub in_table : c < l.tfields
  in_table = ltb-true c l.tfields parts.0

  pub column_form : (column_of l c).form ≡ F.Items T.E
  column_form = e_form (column_of l c).form (and_parts is_e (not (column_of l c).scaling_given) parts.1).0

  pub e_bytes : column_bytes (column_of l c) ≡ (column_of l c).count * 4
  unfolding letter_width among bytes
  e_bytes = ap (λ f. field_bytes f (column_of l c).count) column_form

module _ (l : BinTable) (ok : layout_ok l ≡ true) where
  pub row_small : (row : ℕ) → row < l.naxis2 → row < 100000000
  row_small row h = omega (arith, (limits l ok).rows)

  pub row_fits : (row : ℕ) → row < l.naxis2 → length (decimal_text row) ≤ 8
  row_fits row h = row_short row (row_small row h)

  module _ (c : ℕ) (e : page_column l c ≡ true) where
    pub few_items : (column_of l c).count ≤ 262144
    few_items = omega (arith, e_bytes l c e, column_in_row l ok c (in_table l c e), (limits l ok).row_bytes)

    pub idx_fits : (i : ℕ) → i < (column_of l c).count → length (decimal_text i) ≤ 6
    idx_fits i h = idx_short i (omega (arith, few_items))

    -- the lines of a row that there is
    module _ (a : List ℕ) (r : ℕ) (inside : r < l.naxis2) (ed : Edition) where
      pub each_line : (i : ℕ) → i < (column_of l c).count
          → length (profile_line r i (weight_at l a c r ed i)) ≡ 27
      each_line i h = line_length r i _ (row_small r inside) (omega (arith, few_items)) (weight_length ed _)

      pub each_fields : (i : ℕ) → i < (column_of l c).count
          → Fields r i (weight_at l a c r ed i) 0 (profile_line r i (weight_at l a c r ed i))
      each_fields i h = line_fields r i _ (row_small r inside) (omega (arith, few_items)) (weight_length ed _)

      pub page_length : length (profile_page l a c r ed) ≡ 27 * (column_of l c).count
      unfolding profile_page
      page_length =
          pieces_length (λ i. profile_line r i (weight_at l a c r ed i)) 27 0 (column_of l c).count
          (λ i h. each_line i (omega arith))
          ∙ omega arith
