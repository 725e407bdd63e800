-- Finding a name in either case: what is found, and how it stands to what is found byte for byte.
-- Assumes nothing.
use Rattle.std.specs.Prelude.{Some, None, Option}
use Prim.Native.Nat.{ℕ, ◌≤◌, ◌<◌}
use mathlib.Core.Path.{◌≡◌, refl, sym, ◌∙◌, ap, subst}
use mathlib.Core.Bool.{Bool, true, false, ◌&&◌, true≢false}
use mathlib.Core.List.{List}
use native.Mathlib.Omega.{arith}
use lib.Dec.{ltb}
use lib.ListN.{length, get_or, drop}
use lib.Pointwise.{pointwise, pointwise_long}
use borrow.Author.Tests.{ltb-true, ltb-false}
use Rattle.ascii.specs.Text.{same}
use Rattle.ascii.proofs.Cases.{either, both, no_value}
use Rattle.layout.specs.declared.Column.{Column}
use Rattle.layout.specs.declared.Name.{Name}
use Rattle.layout.specs.declared.BinTable.{BinTable}
use Rattle.layout.specs.Layout.{no_column, columns_of}
use Rattle.layout.specs.Names.{undoubled, column_name, stretch_of, in_header, alike, same_name, has_name, find_name}
use Rattle.layout.specs.EitherCase.{letter, named, has_bytes, find_bytes}
use Rattle.layout.proofs.Named.{part_in_header, name_at, column_at, found_inside}
use Rattle.layout.proofs.First.{not_both, first_passes, first_none, first_upto, first_same}
use Rattle.layout.proofs.Alike.{names_equivalence, each_alike, bytes_alike, bytes_alone, front_alike, rest_alike, undoubled_alike}

module _ (h : List ℕ) (l : BinTable) (s : List ℕ) where
  -- the column that is found has the name, and none in front of it has
  pub found_first : (c : ℕ) → find_name h l s ≡ Some c → (named h l s c ≡ true) × ((d : ℕ) → d < c → named h l s d ≡ false)
  unfolding find_name
  found_first c = first_passes (has_name h s) refl (columns_of l) c

  -- nothing is found just where no column has the name
  pub found_nothing : find_name h l s ≡ None → (c : ℕ) → named h l s c ≡ false
  unfolding find_name
  found_nothing = first_none (has_name h s) refl (columns_of l)

  pub nothing_found : ((c : ℕ) → named h l s c ≡ false) → find_name h l s ≡ None
  nothing_found n = no_value (find_name h l s) (λ c e. true≢false (sym (found_first c e).0 ∙ n c))

  -- if a column has the name, it is found or one in front of it is
  pub found_upto : (c : ℕ) → named h l s c ≡ true → (d : ℕ) × (find_name h l s ≡ Some d) × (d ≤ c) × (named h l s d ≡ true)
  unfolding find_name
  found_upto c = first_upto (has_name h s) refl (columns_of l) c

  -- a column that has the name, and none in front of it that has, is the one that is found
  pub first_found : (c : ℕ) → named h l s c ≡ true → ((d : ℕ) → d < c → named h l s d ≡ false) → find_name h l s ≡ Some c
  first_found c e before =
      let q = found_upto c e in
      let k : q.0 ≡ c =
      either (ltb q.0 c)
      (λ t. absurd (true≢false (sym q.3 ∙ before q.0 (ltb-true q.0 c t))))
      (λ t. omega (arith, q.2, ltb-false q.0 c t)) in
      q.1 ∙ ap Some k

  -- where a single column has the name, it is that one
  pub found_only : (c : ℕ) → named h l s c ≡ true → ((d : ℕ) → named h l s d ≡ true → d ≡ c) → find_name h l s ≡ Some c
  found_only c e only = let q = found_upto c e in q.1 ∙ ap Some (only q.0 q.3)

bytes_named : (h s : List ℕ) (x : Column) → has_bytes h s x ≡ true → has_name h s x ≡ true
bytes_named h s x e =
    let q = both (in_header h x.name) (same (undoubled (stretch_of h x.name)) s) e in
    rw q.0 (bytes_alike (undoubled (stretch_of h x.name)) s q.1)

module _ (h : List ℕ) (l : BinTable) (s : List ℕ) where
  -- the column that is found by its bytes has the name
  named_by_bytes : (c : ℕ) → find_bytes h l s ≡ Some c → named h l s c ≡ true
  unfolding find_bytes
  named_by_bytes c e = bytes_named h s (get_or (columns_of l) c no_column) (first_passes (has_bytes h s) refl (columns_of l) c e).0

  -- a name that is found by its bytes is found, at the same column or an earlier one
  pub found_by_bytes : (c : ℕ) → find_bytes h l s ≡ Some c → (d : ℕ) × (find_name h l s ≡ Some d) × (d ≤ c)
  found_by_bytes c e = let q = found_upto h l s c (named_by_bytes c e) in (q.0, q.1, q.2)

  -- and at the same one if no other column has the name in either case
  pub found_alone : (c : ℕ) → find_bytes h l s ≡ Some c → ((d : ℕ) → named h l s d ≡ true → d ≡ c) → find_name h l s ≡ Some c
  found_alone c e = found_only h l s c (named_by_bytes c e)

  -- where no column has the name in either case, none has its bytes
  pub nothing_by_bytes : find_name h l s ≡ None → find_bytes h l s ≡ None
  nothing_by_bytes n =
      no_value (find_bytes h l s) (λ c e. let d = found_by_bytes c e in not_both (find_name h l s) d.0 n d.1)

  -- a name without letters is found as by its bytes
  pub found_without_letters : ((i : ℕ) → letter (get_or s i 0) ≡ false) → find_name h l s ≡ find_bytes h l s
  unfolding find_name find_bytes
  found_without_letters n =
      first_same (has_name h s) (has_bytes h s)
      (λ x. ap (λ (b : Bool). in_header h x.name && b) (bytes_alone (undoubled (stretch_of h x.name)) s n))
      0 (columns_of l)

-- two names that are alike find the same
pub found_either_case : (h : List ℕ) (l : BinTable) (s t : List ℕ) → pointwise alike s t ≡ true
    → find_name h l s ≡ find_name h l t
unfolding find_name
found_either_case h l s t e =
    first_same (has_name h s) (has_name h t)
    (λ x. ap (λ (b : Bool). in_header h x.name && b) (like (undoubled (stretch_of h x.name))))
    0 (columns_of l)
  where
    like : (p : List ℕ) → pointwise alike p s ≡ pointwise alike p t
    like p = names_equivalence.symm p s ∙ names_equivalence.congr s t p e ∙ names_equivalence.symm t p

-- the name that is handed back of the column that is found is the header's own bytes, and with two quotes as one it is as
-- long as the name sought and alike in each place
pub found_name : (h : List ℕ) (l : BinTable) (s : List ℕ) (c : ℕ) → find_name h l s ≡ Some c
    → (column_name h l c ≡ stretch_of h (get_or l.columns c no_column).name)
    × (length (undoubled (column_name h l c)) ≡ length s)
    × ((i : ℕ) → alike (get_or (undoubled (column_name h l c)) i 0) (get_or s i 0) ≡ true)
found_name h l s c e =
    let x = get_or l.columns c no_column in let i = (found_inside h l s c e).0 in
    let q = subst (λ (y : Column). has_name h s y ≡ true) (column_at l c i) (found_first h l s c e).0 in
    let b = both (in_header h x.name) (same_name (stretch_of h x.name) s) q in
    let own = sym (name_at h l c i) ∙ part_in_header h x.name b.0 in
    let same : same_name (column_name h l c) s ≡ true = rw own b.1 in
    (own, pointwise_long alike (undoubled (column_name h l c)) s same, each_alike (undoubled (column_name h l c)) s same)

-- a header in another case: the same columns are found in it
module _ (g h : List ℕ) (e : pointwise alike g h ≡ true) where
  reached_alike : (n : Option Name) → in_header g n ≡ in_header h n
  reached_alike None = refl
  reached_alike (Some s) = rw (pointwise_long alike g h e) refl

  part_alike : (n : Option Name) → pointwise alike (stretch_of g n) (stretch_of h n) ≡ true
  part_alike None = refl
  part_alike (Some s) = front_alike s.len (drop s.start g) (drop s.start h) (rest_alike s.start g h e)

  pub found_other_header : (l : BinTable) (s : List ℕ) → find_name g l s ≡ find_name h l s
  unfolding find_name
  found_other_header l s =
      first_same (has_name g s) (has_name h s)
      (λ x. rw (reached_alike x.name) (ap (λ (b : Bool). in_header h x.name && b)
      (names_equivalence.congr (undoubled (stretch_of g x.name)) (undoubled (stretch_of h x.name)) s
      (undoubled_alike (stretch_of g x.name) (stretch_of h x.name) (part_alike x.name)))))
      0 (columns_of l)
