-- The part of a header that is a name, and the columns of a layout that have names.
-- Assumes nothing.
use Rattle.std.specs.Prelude.{Option, Some, None, MatchOption, HoldsAt, unwrap_or, option_copied}
use denote.Ref.{Bor}
use mathlib.Core.Path.{◌≡◌, refl, ap, ◌∙◌}
use mathlib.Core.Bool.{Bool, true, false, cond}
use mathlib.Core.List.{List, []}
use Prim.Native.Nat.{ℕ, ◌≤◌, ◌<◌}
use native.Mathlib.Omega.{arith}
use lib.Dec.{ltb}
use lib.ListN.{length, get_or, get_or-eq_default, length-take}
use lib.Seq.{get_or-take}
use borrow.Author.Tests.{lt-ltb, le-ltb, ltb-true, ltb-false}
use Rattle.ascii.proofs.Cases.{either}
use Rattle.layout.specs.declared.Column.{Column}
use Rattle.layout.specs.declared.Name.{Name}
use Rattle.layout.specs.declared.BinTable.{BinTable}
use Rattle.layout.specs.Layout.{no_column, columns_of}
use Rattle.layout.specs.Names.{in_header, stretch_of, part_of, column_name, has_name, find_name}
use Rattle.layout.proofs.First.{first_inside}

module _ (h : List ℕ) where
  -- a name that is reached is its part
  pub part_in_header : (s : Option Name) → in_header h s ≡ true → part_of h s ≡ stretch_of h s
  unfolding part_of
  part_in_header s e = rw e

  module _ (l : BinTable) (c : ℕ) where
    pub name_over : l.tfields ≤ c → [] ≡ column_name h l c
    unfolding column_name
    name_over p = rw (le-ltb c l.tfields p)

    pub name_past : length l.columns ≤ c → [] ≡ column_name h l c
    unfolding column_name part_of
    name_past p = rw (get_or-eq_default l.columns no_column {n = c} p) (either (ltb c l.tfields) (λ e. rw e) (λ e. rw e))

    pub name_at : c < l.tfields → part_of h (get_or l.columns c no_column).name ≡ column_name h l c
    unfolding column_name
    name_at p = rw (lt-ltb c l.tfields p)

pub column_at : (l : BinTable) (i : ℕ) → i < l.tfields → get_or (columns_of l) i no_column ≡ get_or l.columns i no_column
column_at l i p = get_or-take l.tfields l.columns i no_column p

-- the name of one of a layout's columns, and of a column that it has not
module _ (h : List ℕ) (l : BinTable) (c : ℕ) where
  pub name_found : (x : Column) → c < length (columns_of l) → x ≡ get_or (columns_of l) c no_column → part_of h x.name ≡ column_name h l c
  name_found x p e =
      let inside : c < l.tfields = omega (arith, p, length-take l.tfields l.columns) in
      ap (λ (y : Column). part_of h y.name) (e ∙ column_at l c inside) ∙ name_at h l c inside

  pub name_missing : length (columns_of l) ≤ c → [] ≡ column_name h l c
  name_missing p =
      either (ltb c l.tfields)
      (λ t. name_past h l c (omega (arith, p, length-take l.tfields l.columns, ltb-true c l.tfields t)))
      (λ t. name_over h l c (ltb-false c l.tfields t))

  -- what is read of the column that is looked up
  pub name_read : {P : Bor Column → Type 0} (r : Option (Bor Column)) (part : Option (Bor (List ℕ))) (nothing : Bor (List ℕ)) → nothing.now ≡ []
      → MatchOption r (length (columns_of l) ≤ c) (λ x. (c < length (columns_of l)) × HoldsAt (λ y. x.now ≡ y) (columns_of l) c)
      → MatchOption r (part ≡ None) P
      → ((x : Bor Column) → P x → option_copied part ≡ cond (in_header h x.now.name) (Some (stretch_of h x.now.name)) None)
      → (unwrap_or part nothing).now ≡ column_name h l c
  unfolding part_of
  name_read None part nothing e m g k = rw g (e ∙ name_missing m)
  name_read (Some x) part nothing e m g k =
      copied part (in_header h x.now.name) _ nothing e (k x g) ∙ name_found x.now m.0 (m.1 no_column)
    where
      copied : (part : Option (Bor (List ℕ))) (t : Bool) (s : List ℕ) (nothing : Bor (List ℕ)) → nothing.now ≡ []
          → option_copied part ≡ cond t (Some s) None → (unwrap_or part nothing).now ≡ cond t s []
      copied None true s nothing e g = cc
      copied None false s nothing e g = e
      copied (Some y) true s nothing e g = cc
      copied (Some y) false s nothing e g = cc

-- a column that is found is one of the layout's
pub found_inside : (h : List ℕ) (l : BinTable) (sought : List ℕ) (c : ℕ) → find_name h l sought ≡ Some c → (c < l.tfields) × (c < length l.columns)
unfolding find_name
found_inside h l sought c e =
    let p = first_inside (has_name h sought) refl (columns_of l) c e in let n = length-take l.tfields l.columns in
    (omega (arith, p, n), omega (arith, p, n))
