-- Records that hold no used name may become others of that sort (`header_may_become`, header/specs/Unused): the entry
-- says the same of the header for every data area, refusals and their places included, and the layout's columns have
-- the same names.
-- Assumes nothing.
use Rattle.std.specs.Prelude.{Option, Some, None, Result}
use Rattle.std.specs.Float.{Float}
use mathlib.Core.Path.{◌≡◌, refl, sym, ◌∙◌, ap, ap₂, subst}
use mathlib.Core.Bool.{Bool, true, ◌&&◌}
use mathlib.Core.List.{List, [], ◌∷◌, ◌++◌, map}
use Prim.Native.Nat.{ℕ, zero, suc, ◌+◌, ◌-◌, ◌*◌, ◌≤◌, ◌<◌}
use native.Mathlib.Omega.{arith}
use lib.Dec.{ltb}
use lib.ListN.{take, drop, get_or}
use borrow.Author.Tests.{ltb-true, ltb-false}
use Rattle.ascii.specs.Text.{bytes, same}
use Rattle.ascii.proofs.Cases.{either}
use Rattle.card.specs.declared.Value.{Value}
use Rattle.card.specs.declared.Value.TheVariants.{Integer, String}
use Rattle.card.specs.Record.{card_at}
use Rattle.card.specs.Value.{value_of, wide_of}
use Rattle.card.proofs.Inside.{string_bytes}
use Rattle.keyword.specs.Names.{numeral, single, once_roots, other_roots, roots, range, index_limit}
use Rattle.refusal.specs.declared.Refusal.{Refusal}
use Rattle.refusal.specs.Refusal.{Outcome, before}
use Rattle.refusal.specs.Refusal as O
use Rattle.header.specs.Checks.{checked, record_of}
use Rattle.header.specs.Unused.{header_may_become}
use Rattle.keyword.proofs.Slots.{used_single, used_rooted}
use Rattle.header.specs.Records.{found}
use Rattle.header.proofs.Becomes.{Used, length_same}
use Rattle.header.proofs.Unused.{checked_same, record_same, second_same, card_same}
use Rattle.real.specs.Real.{real_at}
use Rattle.tform.specs.declared.TFormType.{TFormType}
use Rattle.tform.specs.Form.{form_of}
use Rattle.layout.specs.declared.Column.{Column}
use Rattle.layout.specs.declared.BinTable.{BinTable}
use Rattle.layout.specs.Layout.{naxis1_limit, naxis2_limit, pcount_limit, tfields_limit, no_scaling, column_bytes}
use Rattle.layout.specs.Layout.{columns_of}
use Rattle.layout.specs.Names.{in_header, stretch_of, column_name, same_name, has_name, first_column, find_name}
use Rattle.layout.proofs.Named.{name_over}
use Rattle.layout.proofs.Sizes.{limits}
use Rattle.bintable.specs.Checks.{is_integer, is_string, not_negative, size_in, within, text_in, value_at, size_for}
use Rattle.bintable.specs.Checks.{ttype_of, scaling_given, twice, real_or, wide_at, check16, check17, first_refusal}
use Rattle.bintable.specs.Entry.{required, limited, theap_check, main_of, nine, nine_checks, form_for, type_in}
use Rattle.bintable.specs.Entry.{column_check, column_checks, scaling_of, null_of, column_at, columns_from, layout_of}
use Rattle.bintable.specs.Entry.{all_checks, name_in, accepted, refused, entry_by, entry, entry_of}
use Rattle.bintable.proofs.Bounds.{both_accepted}
use Rattle.bintable.proofs.Entered.{nine_tfields, columns_of_lem, entry_parts}
use Rattle.bintable.proofs.Kept.{entry_layout, entry_ok, entry_decides}
use Rattle.bintable.proofs.OwnNames.{own_name}

-- ---- the same record in both headers

module _ (h g : List ℕ) (k : ℕ) (c : card_at h k ≡ card_at g k) where
  value_same : value_of h k ≡ value_of g k
  unfolding value_of
  value_same = rw c

  wide_same : wide_of h k ≡ wide_of g k
  unfolding wide_of
  wide_same = rw c

  real_same : real_at h k ≡ real_at g k
  unfolding real_at
  real_same = rw c

  -- the bytes of a string, which lies within its record
  bytes_same : (v : Option Value) → value_of h k ≡ v → text_in h v ≡ text_in g v
  bytes_same (Some (Integer z)) e = refl
  bytes_same (Some (String a n)) e =
      string_bytes a n h k e ∙ ap (λ (r : List ℕ). take n (drop (a - k * 80) r)) c
      ∙ sym (string_bytes a n g k (sym value_same ∙ e))
  bytes_same None e = refl

  text_same : text_in h (value_of h k) ≡ text_in g (value_of g k)
  text_same = bytes_same (value_of h k) refl ∙ ap (text_in g) value_same

-- ---- a used name

module _ (h g : List ℕ) (m : header_may_become h g ≡ true) where
  module _ (u : List ℕ) (used : Used u) where
    -- what is looked up in the name's record
    looked_up : {A : Type 0} (f : List ℕ → Option ℕ → A)
        → ((k : ℕ) → card_at h k ≡ card_at g k → f h (Some k) ≡ f g (Some k))
        → f h None ≡ f g None → f h (record_of h u) ≡ f g (record_of g u)
    looked_up {A} f some none = by (record_of h u) refl ∙ ap (f g) (record_same h g m u used)
      where
        by : (r : Option ℕ) → record_of h u ≡ r → f h r ≡ f g r
        by (Some k) e = some k (card_same h g m u used k e)
        by None e = none

    value_stays : value_at h (record_of h u) ≡ value_at g (record_of g u)
    value_stays = looked_up value_at (value_same h g) refl

    wide_stays : wide_at h (record_of h u) ≡ wide_at g (record_of g u)
    wide_stays = looked_up wide_at (wide_same h g) refl

    real_stays : (missing : Float) → real_or missing h (record_of h u) ≡ real_or missing g (record_of g u)
    real_stays missing = looked_up (real_or missing) (real_same h g) refl

    -- the text of its value
    text_stays : text_in h (value_at h (record_of h u)) ≡ text_in g (value_at g (record_of g u))
    text_stays = looked_up (λ f r. text_in f (value_at f r)) (text_same h g) refl

  -- ---- the nine names

  name_used : (s : ℕ) → s < 9 → Used (get_or single s [])
  unfolding single
  name_used s p = ap found (used_single s p)

  module _ (u : List ℕ) (used : Used u) where
    required_same : (kind right right' : Option Value → Bool)
        → right (value_at h (record_of h u)) ≡ right' (value_at g (record_of g u))
        → required h (record_of h u) kind right ≡ required g (record_of g u) kind right'
    unfolding required
    required_same kind right right' e = rw (e, value_stays u used, record_same h g m u used)

    required_within : (low high : ℕ)
        → required h (record_of h u) is_integer (within low high)
        ≡ required g (record_of g u) is_integer (within low high)
    required_within low high =
        required_same is_integer (within low high) (within low high) (ap (within low high) (value_stays u used))

    limited_same : (kind right : Option Value → Bool) (limit : ℕ)
        → limited h (record_of h u) kind right limit ≡ limited g (record_of g u) kind right limit
    unfolding limited
    limited_same kind right limit = rw (value_stays u used, record_same h g m u used)

    theap_same : (main pcount : ℕ)
        → theap_check h (record_of h u) main pcount ≡ theap_check g (record_of g u) main pcount
    unfolding theap_check
    theap_same main pcount = rw (value_stays u used, record_same h g m u used)

  nine_same : nine_checks h ≡ nine_checks g
  unfolding nine_checks nine single
  nine_same =
      rw (
        required_same (bytes "XTENSION") (name_used 0 (omega arith)) is_string
            (λ v. same (text_in h v) (bytes "BINTABLE"))
            (λ v. same (text_in g v) (bytes "BINTABLE"))
            (ap (λ (t : List ℕ). same t (bytes "BINTABLE"))
            (text_stays (bytes "XTENSION") (name_used 0 (omega arith)))),
        required_within (bytes "BITPIX") (name_used 1 (omega arith)) 8 8,
        required_within (bytes "NAXIS") (name_used 2 (omega arith)) 2 2,
        limited_same (bytes "NAXIS1") (name_used 3 (omega arith)) is_integer not_negative naxis1_limit,
        limited_same (bytes "NAXIS2") (name_used 4 (omega arith)) is_integer not_negative naxis2_limit,
        limited_same (bytes "PCOUNT") (name_used 5 (omega arith)) is_integer not_negative pcount_limit,
        required_within (bytes "GCOUNT") (name_used 6 (omega arith)) 1 1,
        limited_same (bytes "TFIELDS") (name_used 7 (omega arith)) is_integer (within 0 index_limit) tfields_limit,
        theap_same (bytes "THEAP") (name_used 8 (omega arith)) (main_of h) (size_for h "PCOUNT"),
        value_stays (bytes "NAXIS1") (name_used 3 (omega arith)),
        value_stays (bytes "NAXIS2") (name_used 4 (omega arith)),
        value_stays (bytes "PCOUNT") (name_used 5 (omega arith)),
      )

  -- ---- the columns

  module _ (n : ℕ) (least : 1 ≤ n) (most : n ≤ index_limit) where
    root_used : (r : ℕ) → r < 5 → Used (get_or roots r [] ++ numeral n)
    unfolding once_roots other_roots
    root_used r p = ap found (used_rooted r n p least most)

    form_same : form_for h n ≡ form_for g n
    unfolding once_roots other_roots
    form_same = ap form_of (text_stays (bytes "TFORM" ++ numeral n) (root_used 0 (omega arith)))

    scaling_checks : (f : TFormType) → check16 h n f ≡ check16 g n f
    unfolding check16 scaling_given twice once_roots other_roots
    scaling_checks f =
        rw (
          real_stays (bytes "TSCAL" ++ numeral n) (root_used 2 (omega arith)) no_scaling.factor,
          real_stays (bytes "TZERO" ++ numeral n) (root_used 3 (omega arith)) no_scaling.zero,
          second_same h g m (bytes "TSCAL" ++ numeral n) (root_used 2 (omega arith)),
          second_same h g m (bytes "TZERO" ++ numeral n) (root_used 3 (omega arith)),
          record_same h g m (bytes "TSCAL" ++ numeral n) (root_used 2 (omega arith)),
          record_same h g m (bytes "TZERO" ++ numeral n) (root_used 3 (omega arith)),
        )

    null_checks : (f : TFormType) → check17 h n f ≡ check17 g n f
    unfolding check17 once_roots other_roots
    null_checks f =
        rw (
          wide_stays (bytes "TNULL" ++ numeral n) (root_used 4 (omega arith)),
          second_same h g m (bytes "TNULL" ++ numeral n) (root_used 4 (omega arith)),
          record_same h g m (bytes "TNULL" ++ numeral n) (root_used 4 (omega arith)),
        )

    column_same : column_check h n ≡ column_check g n
    unfolding column_check once_roots other_roots
    column_same =
        rw (
          form_same,
          scaling_checks (type_in (form_for g n)),
          null_checks (type_in (form_for g n)),
          value_stays (bytes "TFORM" ++ numeral n) (root_used 0 (omega arith)),
          value_stays (bytes "TTYPE" ++ numeral n) (root_used 1 (omega arith)),
          record_same h g m (bytes "TFORM" ++ numeral n) (root_used 0 (omega arith)),
          record_same h g m (bytes "TTYPE" ++ numeral n) (root_used 1 (omega arith)),
        )

    column_stays : (at : ℕ) → column_at h n at ≡ column_at g n at
    unfolding scaling_given scaling_of null_of once_roots other_roots
    column_stays at =
        rw (
          form_same,
          value_stays (bytes "TTYPE" ++ numeral n) (root_used 1 (omega arith)),
          real_stays (bytes "TSCAL" ++ numeral n) (root_used 2 (omega arith)) no_scaling.factor,
          real_stays (bytes "TZERO" ++ numeral n) (root_used 3 (omega arith)) no_scaling.zero,
          record_same h g m (bytes "TSCAL" ++ numeral n) (root_used 2 (omega arith)),
          record_same h g m (bytes "TZERO" ++ numeral n) (root_used 3 (omega arith)),
          wide_stays (bytes "TNULL" ++ numeral n) (root_used 4 (omega arith)),
        )

  checks_from : (n k : ℕ) → 1 ≤ n → n + k ≤ 1 + index_limit
      → map (column_check h) (range n k) ≡ map (column_check g) (range n k)
  unfolding range
  checks_from n zero l p = refl
  checks_from n (suc k) l p =
      ap₂ ◌∷◌ (column_same n l (omega (arith, p)))
      (checks_from (suc n) k (omega arith) (omega (arith, p)))

  columns_same : (at n k : ℕ) → 1 ≤ n → n + k ≤ 1 + index_limit → columns_from h at n k ≡ columns_from g at n k
  unfolding columns_from
  columns_same at n zero l p = refl
  columns_same at n (suc k) l p =
      let first = column_stays n l (omega (arith, p)) at in
      ap₂ ◌∷◌ first
      (ap (λ (c : Column). columns_from h (at + column_bytes c) (suc n) k) first
      ∙ columns_same (at + column_bytes (column_at g n at)) (suc n) k (omega arith) (omega (arith, p)))

  -- ---- the layout and the entry, where the nine names pass

  module _ (few : size_for h "TFIELDS" ≤ 64) where
    fields_same : size_for h "TFIELDS" ≡ size_for g "TFIELDS"
    unfolding single
    fields_same = ap size_in (value_stays (bytes "TFIELDS") (name_used 7 (omega arith)))

    checks_same : column_checks h (size_for h "TFIELDS") ≡ column_checks g (size_for g "TFIELDS")
    unfolding column_checks
    checks_same =
        ap first_refusal (checks_from 1 (size_for h "TFIELDS") (omega arith) (omega (arith, few)))
        ∙ ap (λ (k : ℕ). first_refusal (map (column_check g) (range 1 k))) fields_same

    layout_same : layout_of h ≡ layout_of g
    unfolding layout_of single
    layout_same =
        rw (
          columns_same 0 1 (size_for h "TFIELDS") (omega arith) (omega (arith, few)),
          value_stays (bytes "NAXIS1") (name_used 3 (omega arith)),
          value_stays (bytes "NAXIS2") (name_used 4 (omega arith)),
          value_stays (bytes "PCOUNT") (name_used 5 (omega arith)),
          value_stays (bytes "TFIELDS") (name_used 7 (omega arith)),
          value_stays (bytes "THEAP") (name_used 8 (omega arith)),
          record_same h g m (bytes "THEAP") (name_used 8 (omega arith)),
        )

  -- for every data area: the same layout, or the same refusal with its place
  pub entry_same : (a : List ℕ) → entry h a ≡ entry g a
  entry_same a = by (before (checked h) (nine_checks h)) refl
    where
      front : before (checked h) (nine_checks h) ≡ before (checked g) (nine_checks g)
      front = rw (checked_same h g m, nine_same)

      refused_all : (f : List ℕ) (n p : ℕ) → before (checked f) (nine_checks f) ≡ O.refused n p
          → entry f a ≡ refused n p
      refused_all f n p e =
          let q : all_checks f a ≡ O.refused n p = entry_parts f a ∙ rw e in
          ap (λ (o : Outcome). entry_by o (layout_of f)) q

      by : (o : Outcome) → before (checked h) (nine_checks h) ≡ o → entry h a ≡ entry g a
      by (O.refused n p) e = refused_all h n p e ∙ sym (refused_all g n p (sym front ∙ e))
      by O.accepted e =
          let few = nine_tfields h (both_accepted (checked h) (nine_checks h) e).1 in
          let l = layout_same few in
          let q : all_checks h a ≡ all_checks g a =
          entry_parts h a ∙ rw (front, checks_same few, l) (sym (entry_parts g a)) in
          rw (q, l)

  -- so whatever two calls of the entry returned is the same
  pub parsed_same : (a : List ℕ) (x y : Result BinTable Refusal) → entry_of x ≡ entry h a → entry_of y ≡ entry g a
      → x ≡ y
  parsed_same a x y ex ey = entry_decides x y (ex ∙ entry_same a ∙ sym ey)

  -- ---- the names of the layout's columns

  module _ (s : List ℕ) where
    has_same : (v : Option Value) → text_in h v ≡ text_in g v
        → (in_header h (name_in v) && same_name (stretch_of h (name_in v)) s)
        ≡ (in_header g (name_in v) && same_name (stretch_of g (name_in v)) s)
    has_same (Some (Integer z)) e = refl
    has_same (Some (String b k)) e = rw (length_same h g m, e)
    has_same None e = refl

    named_same : (n at : ℕ) → 1 ≤ n → n ≤ index_limit
        → has_name h s (column_at h n at) ≡ has_name g s (column_at h n at)
    unfolding once_roots
    named_same n at l p =
        let name = bytes "TTYPE" ++ numeral n in let u = root_used n l p 1 (omega arith) in
        has_same (value_at h (ttype_of h n)) (text_stays name u ∙ ap (text_in g) (sym (value_stays name u)))

    first_same : (i at n k : ℕ) → 1 ≤ n → n + k ≤ 1 + index_limit
        → first_column (has_name h s) i (columns_from h at n k) ≡ first_column (has_name g s) i (columns_from h at n k)
    unfolding columns_from first_column
    first_same i at n zero l p = refl
    first_same i at n (suc k) l p =
        rw (
          named_same n at l (omega (arith, p)),
          first_same (suc i) (at + column_bytes (column_at h n at)) (suc n) k (omega arith) (omega (arith, p)),
        )

  module _ (a : List ℕ) (l : BinTable) (taken : entry h a ≡ accepted l) where
    taken_too : entry g a ≡ accepted l
    taken_too = sym (entry_same a) ∙ taken

    few_columns : l.tfields ≤ 64
    few_columns = (limits l (entry_ok h a l taken)).columns

    few_fields : size_for h "TFIELDS" ≤ 64
    unfolding layout_of
    few_fields = subst (λ (x : BinTable). x.tfields ≤ 64) (entry_layout h a l taken) few_columns

    own_text : (f : List ℕ) → l ≡ layout_of f → (c : ℕ) → c < l.tfields
        → column_name f l c ≡ text_in f (value_at f (ttype_of f (c + 1)))
    own_text f e c =
        subst (λ (x : BinTable). c < x.tfields → column_name f x c ≡ text_in f (value_at f (ttype_of f (c + 1))))
        (sym e) (own_name f c)

    -- each column's name is handed back the same
    pub name_same : (c : ℕ) → column_name h l c ≡ column_name g l c
    unfolding once_roots
    name_same c =
        either (ltb c l.tfields)
        (λ t.
        let p = ltb-true c l.tfields t in
        let n = bytes "TTYPE" ++ numeral (c + 1) in
        let u = root_used (c + 1) (omega arith) (omega (arith, p, few_columns)) 1 (omega arith) in
        own_text h (entry_layout h a l taken) c p ∙ text_stays n u
        ∙ sym (own_text g (entry_layout g a l taken_too) c p))
        (λ t. sym (name_over h l c (ltb-false c l.tfields t)) ∙ name_over g l c (ltb-false c l.tfields t))

    -- and every name sought finds the same column
    pub found_same : (s : List ℕ) → find_name h l s ≡ find_name g l s
    unfolding find_name
    found_same s =
        let own : columns_of l ≡ columns_from h 0 1 (size_for h "TFIELDS") =
        ap columns_of (entry_layout h a l taken) ∙ columns_of_lem h in
        rw own (first_same s 0 0 1 (size_for h "TFIELDS") (omega arith) (omega (arith, few_fields)))
