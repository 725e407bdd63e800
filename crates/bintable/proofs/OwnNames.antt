-- The name of a column in the header that its layout was made from is the text of TTYPEn: that header is never too short
-- for it. By a name that is alike to it the column is found, or one in front of it.
-- Assumes nothing.
use Rattle.std.specs.Prelude.{Option, Some, None}
use mathlib.Core.Path.{◌≡◌, refl, sym, ◌∙◌, ap, subst}
use mathlib.Core.Bool.{true, ◌&&◌}
use mathlib.Core.List.{List}
use Prim.Native.Nat.{ℕ, ◌+◌, ◌≤◌, ◌<◌}
use lib.ListN.{length, get_or}
use borrow.Author.Tests.{le-leb}
use Rattle.card.specs.declared.Value.{Value}
use Rattle.card.specs.declared.Value.TheVariants.{Integer, String}
use Rattle.card.proofs.Inside.{value_inside}
use Rattle.layout.specs.Layout.{no_column, columns_of}
use Rattle.layout.specs.declared.Name.{Name}
use Rattle.layout.specs.declared.Column.{Column}
use Rattle.layout.specs.Names.{in_header, stretch_of, part_of, column_name, same_name, find_name}
use Rattle.layout.proofs.Named.{name_at, column_at}
use Rattle.layout.proofs.EitherCase.{found_upto}
use Rattle.bintable.specs.Checks.{text_in, value_at, ttype_of}
use Rattle.bintable.specs.Entry.{name_in, layout_of}
use Rattle.bintable.proofs.Entered.{column_in}

module _ (h : List ℕ) where
  part_text : (v : Option Value) → ((a n : ℕ) → v ≡ Some (String a n) → a + n ≤ length h) → part_of h (name_in v) ≡ text_in h v
  unfolding part_of
  part_text (Some (Integer z)) i = refl
  part_text (Some (String a n)) i = rw (le-leb (a + n) (length h) (i a n refl))
  part_text None i = refl

  record_text : (r : Option ℕ) → part_of h (name_in (value_at h r)) ≡ text_in h (value_at h r)
  unfolding part_of
  record_text (Some k) = part_text (value_at h (Some k)) (λ a n e. value_inside a n h k e)
  record_text None = refl

  listed : (c : ℕ) → c < (layout_of h).tfields → (get_or (layout_of h).columns c no_column).name ≡ name_in (value_at h (ttype_of h (c + 1)))
  listed c p = ap (λ (x : Column). x.name) (column_in h c p).1

  pub own_name : (c : ℕ) → c < (layout_of h).tfields → column_name h (layout_of h) c ≡ text_in h (value_at h (ttype_of h (c + 1)))
  own_name c p = sym (name_at h (layout_of h) c p) ∙ ap (part_of h) (listed c p) ∙ record_text (ttype_of h (c + 1))

  reached : (r : Option ℕ) (a n : ℕ) → value_at h r ≡ Some (String a n) → a + n ≤ length h
  reached (Some k) a n e = value_inside a n h k e
  reached None a n e = cc

  -- the TTYPEn of column c is the string of n bytes from byte a on
  module _ (c a n : ℕ) (p : c < (layout_of h).tfields) (v : value_at h (ttype_of h (c + 1)) ≡ Some (String a n)) where
    own_stretch : (get_or (columns_of (layout_of h)) c no_column).name ≡ Some (record { start = a; len = n })
    own_stretch = ap (λ (x : Column). x.name) (column_at (layout_of h) c p) ∙ listed c p ∙ ap name_in v

    -- if that is alike to the name sought, its column is found or one in front of it is
    pub own_found : (s : List ℕ) → same_name (text_in h (Some (String a n))) s ≡ true
        → (d : ℕ) × (find_name h (layout_of h) s ≡ Some d) × (d ≤ c)
    own_found s e =
        let i = le-leb (a + n) (length h) (reached (ttype_of h (c + 1)) a n v) in
        let has = subst (λ (m : Option Name). (in_header h m && same_name (stretch_of h m) s) ≡ true) (sym own_stretch) (rw i e) in
        let q = found_upto h (layout_of h) s c has in (q.0, q.1, q.2)
