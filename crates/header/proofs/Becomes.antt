-- A header that may become another one: in which two ways a record may become another, and that it goes both ways and
-- on: what may become another one is an equivalence.
-- Assumes nothing.
use Rattle.std.specs.Prelude.{Option, Some, None}
use mathlib.Core.Path.{◌≡◌, refl, sym, ap, ◌∙◌}
use mathlib.Core.Bool.{true, false}
use mathlib.Core.List.{List, [], ◌∷◌}
use Prim.Native.Nat.{ℕ}
use lib.Dec.{eqb}
use lib.ListN.{length}
use borrow.Author.Tests.{eqb-true, eq-eqb}
use Rattle.ascii.specs.Text.{same}
use Rattle.ascii.proofs.Cases.{either}
use Rattle.ascii.proofs.Same.{same_true, same_false, same_refl}
use Rattle.card.specs.Record.{is_end, name_of}
use Rattle.keyword.specs.Names.{used_names, once_names, position}
use Rattle.keyword.proofs.Slots.{unused_once}
use Rattle.header.specs.Records.{records, found}
use Rattle.header.specs.Unused.{unused, may_become, all_may_become, header_may_become}

-- a used name
abbrev pub Used : List ℕ → Type 0
Used u = found (position u used_names) ≡ true

-- no place is none
pub not_found : (f : Option ℕ) → found f ≡ false → f ≡ None
not_found (Some k) e = cc
not_found None e = refl

-- ---- one record

module _ (r : List ℕ) (e : unused r ≡ true) where
  -- an unused record is not END, and has no name that is used, so none that must not stand twice
  pub no_end : is_end r ≡ false
  unfolding unused
  no_end = either (is_end r) (λ t. let q = rw t at e in cc) (λ t. t)

  no_place : position (name_of r) used_names ≡ None
  unfolding unused
  no_place =
      not_found (position (name_of r) used_names)
      (either (found (position (name_of r) used_names)) (λ t. let q = rw (no_end, t) at e in cc) (λ t. t))

  pub no_once : position (name_of r) once_names ≡ None
  no_once = unused_once (name_of r) no_place

  other_name : (u : List ℕ) → Used u → same u (name_of r) ≡ false
  other_name u used =
      same_false u (name_of r) (λ q. let t : found (position u used_names) ≡ false = rw q (ap found no_place) in cc)

-- by the two ways in which a record may become another
pub by_record : {P : Type 0} (r s : List ℕ) → may_become r s ≡ true → (r ≡ s → P)
    → (unused r ≡ true → unused s ≡ true → P) → P
unfolding may_become
by_record r s e f g =
    either (same r s) (λ t. f (same_true r s t))
    (λ t. either (unused r)
    (λ u. either (unused s) (g u) (λ v. let q = rw (t, u, v) at e in cc))
    (λ u. let q = rw (t, u) at e in cc))

module _ (r s : List ℕ) (e : may_become r s ≡ true) where
  -- both are END or neither, and have the same used name or none
  pub end_same : is_end r ≡ is_end s
  end_same = by_record r s e (ap is_end) (λ t u. no_end r t ∙ sym (no_end s u))

  pub holds_same : (u : List ℕ) → Used u → same u (name_of r) ≡ same u (name_of s)
  holds_same u used =
      by_record r s e (ap (λ (x : List ℕ). same u (name_of x)))
      (λ t w. other_name r t u used ∙ sym (other_name s w u used))

  -- one that holds a used name stays
  pub stays : (u : List ℕ) → Used u → same u (name_of r) ≡ true → r ≡ s
  stays u used t = by_record r s e (λ q. q) (λ v w. let f = other_name r v u used in cc)

-- ---- the records up to END

module _ (r s : List ℕ) (rs ss : List (List ℕ)) (e : all_may_become (r ∷ rs) (s ∷ ss) ≡ true) where
  first : may_become r s ≡ true
  unfolding all_may_become
  first = either (may_become r s) (λ t. t) (λ t. let q = rw t at e in cc)

  others : is_end r ≡ false → all_may_become rs ss ≡ true
  unfolding all_may_become
  others t = either (all_may_become rs ss) (λ u. u) (λ u. let q = rw (first, t, u) at e in cc)

-- what holds of no records, of records that begin with END, and, if it holds of some records, of these with one more
-- in front that is not END, holds of all records that may become others
pub by_records : (P : List (List ℕ) → List (List ℕ) → Type 0) → P [] []
    → ((r s : List ℕ) (rs ss : List (List ℕ)) → may_become r s ≡ true → is_end r ≡ true → is_end s ≡ true
    → P (r ∷ rs) (s ∷ ss))
    → ((r s : List ℕ) (rs ss : List (List ℕ)) → may_become r s ≡ true → is_end r ≡ false → is_end s ≡ false → P rs ss
    → P (r ∷ rs) (s ∷ ss))
    → (rs ss : List (List ℕ)) → all_may_become rs ss ≡ true → P rs ss
unfolding all_may_become
by_records P none end more [] [] e = none
by_records P none end more [] (s ∷ ss) e = cc
by_records P none end more (r ∷ rs) [] e = cc
by_records P none end more (r ∷ rs) (s ∷ ss) e =
    let f = first r s rs ss e in
    let same = sym (end_same r s f) in
    either (is_end r) (λ t. end r s rs ss f t (same ∙ t))
    (λ t. more r s rs ss f t (same ∙ t) (by_records P none end more rs ss (others r s rs ss e t)))

-- ---- the header

module _ (h g : List ℕ) (e : header_may_become h g ≡ true) where
  -- the two parts of the relation
  pub length_same : length h ≡ length g
  unfolding header_may_become
  length_same =
      eqb-true (length h) (length g)
      (either (eqb (length h) (length g)) (λ t. t) (λ t. let q = rw t at e in cc))

  pub all_may : all_may_become (records h) (records g) ≡ true
  unfolding header_may_become
  all_may =
      either (all_may_become (records h) (records g)) (λ t. t)
      (λ t. let q = rw (eq-eqb (length h) (length g) length_same, t) at e in cc)

-- ---- an equivalence

record_self : (r : List ℕ) → may_become r r ≡ true
unfolding may_become
record_self r = rw (same_refl r)

all_self : (rs : List (List ℕ)) → all_may_become rs rs ≡ true
unfolding all_may_become
all_self [] = refl
all_self (r ∷ rs) = rw (record_self r, all_self rs) (either (is_end r) (λ t. rw t) (λ t. rw t))

-- each header may become itself
pub header_self : (h : List ℕ) → header_may_become h h ≡ true
unfolding header_may_become
header_self h = rw (eq-eqb (length h) (length h) refl, all_self (records h))

record_back : (r s : List ℕ) → may_become r s ≡ true → may_become s r ≡ true
unfolding may_become
record_back r s e =
    by_record r s e (λ q. rw (q, same_refl s)) (λ t u. rw (t, u) (either (same s r) (λ v. rw v) (λ v. rw v)))

all_back : (rs ss : List (List ℕ)) → all_may_become rs ss ≡ true → all_may_become ss rs ≡ true
unfolding all_may_become
all_back =
    by_records (λ rs ss. all_may_become ss rs ≡ true) refl (λ r s rs ss f t u. rw (record_back r s f, u))
    (λ r s rs ss f t u back. rw (record_back r s f, u, back))

-- if one header may become another, that one may become it
pub header_back : (h g : List ℕ) → header_may_become h g ≡ true → header_may_become g h ≡ true
unfolding header_may_become
header_back h g e =
    rw (eq-eqb (length g) (length h) (sym (length_same h g e)), all_back (records h) (records g) (all_may h g e))

record_on : (r s t : List ℕ) → may_become r s ≡ true → may_become s t ≡ true → may_become r t ≡ true
unfolding may_become
record_on r s t e d =
    by_record r s e (λ q. rw q d)
    (λ x y. by_record s t d (λ q. rw (← q) e) (λ v w. rw (x, w) (either (same r t) (λ z. rw z) (λ z. rw z))))

all_on : (rs ss : List (List ℕ)) → all_may_become rs ss ≡ true → (ts : List (List ℕ)) → all_may_become ss ts ≡ true
    → all_may_become rs ts ≡ true
unfolding all_may_become
all_on =
    by_records (λ rs ss. (ts : List (List ℕ)) → all_may_become ss ts ≡ true → all_may_become rs ts ≡ true) (λ ts d. d)
    end more
  where
    end : (r s : List ℕ) (rs ss : List (List ℕ)) → may_become r s ≡ true → is_end r ≡ true → is_end s ≡ true
        → (ts : List (List ℕ)) → all_may_become (s ∷ ss) ts ≡ true → all_may_become (r ∷ rs) ts ≡ true
    end r s rs ss f t u [] d = cc
    end r s rs ss f t u (x ∷ ts) d = rw (record_on r s x f (first s x ss ts d), t)

    more : (r s : List ℕ) (rs ss : List (List ℕ)) → may_become r s ≡ true → is_end r ≡ false → is_end s ≡ false
        → ((ts : List (List ℕ)) → all_may_become ss ts ≡ true → all_may_become rs ts ≡ true)
        → (ts : List (List ℕ)) → all_may_become (s ∷ ss) ts ≡ true → all_may_become (r ∷ rs) ts ≡ true
    more r s rs ss f t u on [] d = cc
    more r s rs ss f t u on (x ∷ ts) d = rw (record_on r s x f (first s x ss ts d), t, on ts (others s x ss ts d u))

-- and it may become what that one may
pub header_on : (h g f : List ℕ) → header_may_become h g ≡ true → header_may_become g f ≡ true
    → header_may_become h f ≡ true
unfolding header_may_become
header_on h g f e d =
    rw (
      eq-eqb (length h) (length f) (length_same h g e ∙ length_same g f d),
      all_on (records h) (records g) (all_may h g e) (records f) (all_may g f d),
    )
