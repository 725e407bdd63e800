-- The records of TSCALn and TZEROn and their numbers. Where the entry accepts, the value field of each is the text of a
-- number, and the factor or the zero is the double nearest to it (`scaling_says`). And check 16 accepts every such text
-- in its limits, and refuses all else (`column_scaled`, `bad_scaling`).
-- Assumes nothing.
use Rattle.std.specs.Prelude.{Option, Some, None, is_some}
use Rattle.std.specs.Float.{Float, binary64}
use Rattle.std.specs.Float.Ieee.{fits}
use Rattle.std.proofs.lemmas.List.{length-map}
use mathlib.Core.Path.{◌≡◌, refl, sym, ◌∙◌, ap, subst}
use mathlib.Core.Bool.{Bool, true, false, not, or-true}
use mathlib.Core.List.{List, [], ◌∷◌, ◌++◌}
use Prim.Native.Nat.{ℕ, zero, suc, ◌+◌, ◌/◌, ◌<◌}
use native.Mathlib.Omega.{arith}
use lib.Dec.{T}
use lib.ListN.{length, get_or, drop}
use Rattle.ascii.specs.Text.{bytes, front, space}
use Rattle.ascii.proofs.Cases.{either, both}
use Rattle.card.specs.Record.{card_at, is_end, has_value, name_of}
use Rattle.keyword.specs.Names.{numeral, range}
use Rattle.keyword.proofs.Position.{position_at, map_at, range_at, length_range}
use Rattle.header.specs.Records.{records, has_end, before_end, names}
use Rattle.header.specs.Checks.{bad_length, names_read, record_of}
use Rattle.refusal.specs.Refusal.{accepted, refused, before}
use Rattle.real.specs.Real.{real_of, field_real, real_at}
use Rattle.real.specs.Written.{proper}
use Rattle.real.proofs.Laws.{Says, written_read, read_written, finite, read_fits}
use Rattle.tform.specs.declared.TFormType.{TFormType}
use Rattle.tform.specs.declared.TForm.{TForm}
use Rattle.tform.specs.Width.{can_scale}
use Rattle.layout.specs.declared.BinTable.{BinTable}
use Rattle.layout.specs.Layout.{no_scaling, no_column}
use Rattle.bintable.specs.Checks.{is_string, value_at, tform_of, ttype_of, tscal_of, tzero_of, scaling_given, twice, real_or, factor_of, scaling_ok, check4, check5, check16, check17, first_refusal}
use Rattle.bintable.specs.Entry.{form_for, column_check, entry}
use Rattle.bintable.specs.Entry as E
use Rattle.bintable.proofs.Checked.{before_accepted}
use Rattle.bintable.proofs.Scaled.{unscaled, scaling_read}

-- ---- a record that has a name holds a value

front_of : (rs : List (List ℕ)) (k : ℕ) → k < length (before_end rs)
    → (k < length rs) × (get_or (before_end rs) k [] ≡ get_or rs k [])
unfolding before_end
front_of [] k p = absurd (omega arith)
front_of (r ∷ rs) zero p =
    either (is_end r) (λ t. let q = rw t at p in absurd (omega arith)) (λ t. rw t (omega arith, refl))
front_of (r ∷ rs) (suc k) p =
    either (is_end r) (λ t. let q = rw t at p in absurd (omega arith))
    (λ t. let q = rw t at p in let s = front_of rs k (omega arith) in rw t (omega (arith, s.0), s.1))

module _ (h : List ℕ) where
  listed : (k : ℕ) → k < length (names h) → get_or (names h) k [] ≡ name_of (card_at h k)
  unfolding names records
  listed k p =
      let q = front_of (records h) k (omega (arith, length-map (before_end (records h)) name_of)) in
      let many = length h / 80 in
      let in_range : k < many = omega (arith, q.0, length-map (range 0 many) (card_at h), length_range 0 many) in
      map_at name_of (before_end (records h)) k [] (omega (arith, length-map (before_end (records h)) name_of))
      ∙ ap name_of (q.1 ∙ range_at (card_at h) 0 many k [] in_range ∙ ap (card_at h) (omega arith))

  pub named_value : (name : List ℕ) (k : ℕ) → 0 < length name → record_of h name ≡ Some k → has_value (card_at h k) ≡ true
  unfolding names_read name_of
  named_value name k some e =
      let p = position_at name (names_read h) k e in
      either (bad_length h) (λ t. let q = rw t at p.0 in absurd (omega arith))
      (λ t. either (has_end (records h))
      (λ u. let q : k < length (names h) = rw (t, u) at p.0 in
      let n : get_or (names h) k [] ≡ name = rw (t, u) at p.1 in
      either (has_value (card_at h k)) (λ v. v)
      (λ v. let z : [] ≡ name = rw v at (sym (listed k q) ∙ n) in absurd (omega (arith, ap length z, some))))
      (λ u. let q = rw (t, u) at p.0 in absurd (omega arith)))

  -- ---- the number of a record

  -- the value field of record k from its first non-space on
  abbrev pub value_text : ℕ → List ℕ
  value_text k = let f = drop 10 (card_at h k) in drop (front space f) f

  text_real : (k : ℕ) (x : Float) → real_at h k ≡ Some x → field_real (drop 10 (card_at h k)) ≡ Some x
  unfolding real_at
  text_real k x e =
      either (has_value (card_at h k)) (λ t. rw t at e)
      (λ t. let q : None ≡ Some x = rw t at e in cc)

  -- the number of a record: where there is none, one that is given
  abbrev pub Stands : Float → Option ℕ → Float → Type 0
  Stands missing None x = x ≡ missing
  Stands missing (Some k) x = Says (value_text k) x

  stands : (missing : Float) (r : Option ℕ) (x : Float) → real_or missing h r ≡ Some x → Stands missing r x
  stands missing None x e = cc
  stands missing (Some k) x e = read_written (value_text k) x (text_real k x e)

  -- it is a double, finite, and no zero with a minus
  abbrev pub FiniteDouble : Float → Type 0
  FiniteDouble x = T (fits binary64 x) × (proper x ≡ true)

  are_finite : (missing : Float) (r : Option ℕ) (x : Float) → FiniteDouble missing → real_or missing h r ≡ Some x → FiniteDouble x
  are_finite missing None x g e = let q : missing ≡ x = cc in subst FiniteDouble q g
  are_finite missing (Some k) x g e =
      let f = text_real k x e in (read_fits (value_text k) x f, finite (value_text k) x f)

  one_finite : FiniteDouble no_scaling.factor
  unfolding fits
  one_finite = (tt, refl)

  zero_finite : FiniteDouble no_scaling.zero
  unfolding fits
  zero_finite = (tt, refl)

  -- the scaling of column c, from 0, of a layout that the entry returns
  module _ (a : List ℕ) (l : BinTable) (taken : entry h a ≡ E.accepted l) (c : ℕ) (p : c < l.tfields) where
    -- factor and zero are those that are written, and 1 and 0 where none is
    pub scaling_says : let s = (get_or l.columns c no_column).scaling in
        Stands no_scaling.factor (tscal_of h (c + 1)) s.factor × Stands no_scaling.zero (tzero_of h (c + 1)) s.zero
    scaling_says =
        let s = (get_or l.columns c no_column).scaling in let r = scaling_read h a l taken c p in
        (stands no_scaling.factor (tscal_of h (c + 1)) s.factor r.1, stands no_scaling.zero (tzero_of h (c + 1)) s.zero r.2)

    -- the number that the zero's record reads as
    pub zero_read : (k : ℕ) → tzero_of h (c + 1) ≡ Some k → real_of (value_text k) ≡ Some (get_or l.columns c no_column).scaling.zero
    zero_read k e =
        let x = (get_or l.columns c no_column).scaling.zero in let q : real_at h k ≡ Some x = rw e at (scaling_read h a l taken c p).2 in text_real k x q

    pub scaling_finite : let s = (get_or l.columns c no_column).scaling in FiniteDouble s.factor × FiniteDouble s.zero
    scaling_finite =
        let s = (get_or l.columns c no_column).scaling in let r = scaling_read h a l taken c p in (
          are_finite no_scaling.factor (tscal_of h (c + 1)) s.factor one_finite r.1,
          are_finite no_scaling.zero (tzero_of h (c + 1)) s.zero zero_finite r.2,
        )

  -- ---- the check of a column's factor and zero

  -- the value of a record is the text of a number within the limits; a record may be missing
  abbrev pub HoldsNumber : Option ℕ → Type 0
  HoldsNumber None = Unit {0}
  HoldsNumber (Some k) = (x : Float) × Says (value_text k) x

  number_read : (missing : Float) (name : List ℕ) (r : Option ℕ) → 0 < length name → record_of h name ≡ r → HoldsNumber r
      → is_some (real_or missing h r) ≡ true
  unfolding real_at
  number_read missing name None some e g = refl
  number_read missing name (Some k) some e g =
      let s = g.1 in
      let q : field_real (drop 10 (card_at h k)) ≡ Some g.0 =
      ap real_of s.is ∙ written_read s.number s.rest s.parts s.follows ∙ rw s.taken (ap Some (sym s.double)) in
      rw (named_value name k some e, q)

  no_number : (missing : Float) (r : Option ℕ) → is_some (real_or missing h r) ≡ true → HoldsNumber r
  no_number missing None e = tt
  no_number missing (Some k) e = by (real_at h k) refl e
    where
      by : (o : Option Float) → real_at h k ≡ o → is_some o ≡ true → HoldsNumber (Some k)
      by (Some x) q t = (x, stands missing (Some k) x q)
      by None q t = cc

  module _ (n : ℕ) where
    -- the column can be scaled, and factor and zero are numbers and given once
    pub record Scales (f : TFormType) : Type 0 where
      pub can : can_scale f ≡ true
      pub once : twice h n ≡ false
      pub factor : HoldsNumber (tscal_of h n)
      pub zero : HoldsNumber (tzero_of h n)

    scales_ok : (f : TFormType) → Scales f → scaling_ok h n f ≡ true
    unfolding bytes
    scales_ok f s =
        rw (
          s.can,
          s.once,
          number_read no_scaling.factor (bytes "TSCAL" ++ numeral n) (tscal_of h n) (omega arith) refl s.factor,
          number_read no_scaling.zero (bytes "TZERO" ++ numeral n) (tzero_of h n) (omega arith) refl s.zero,
        )

    pub scaled : (f : TFormType) → Scales f → check16 h n f ≡ accepted
    unfolding check16
    scaled f s = rw (scales_ok f s, or-true (not (scaling_given h n)))

    ok_scales : (f : TFormType) → scaling_ok h n f ≡ true → Scales f
    ok_scales f e =
        let a = both (can_scale f) _ e in let b = both (not (twice h n)) _ a.1 in
        let c = both (is_some (factor_of h n)) _ b.1 in
        record {
          can = a.0;
          once = is_not (twice h n) b.0;
          factor = no_number no_scaling.factor (tscal_of h n) c.0;
          zero = no_number no_scaling.zero (tzero_of h n) c.1;
        }
      where
        is_not : (t : Bool) → not t ≡ true → t ≡ false
        is_not true e = cc
        is_not false e = refl

    -- a column that passes 4, 5, 8 and 5
    module _ (f : TForm) (four : check4 n (tform_of h n) ≡ accepted)
        (five : check5 (is_string (value_at h (tform_of h n))) (tform_of h n) ≡ accepted) (form : form_for h n ≡ Some f)
        (name : check5 (is_string (value_at h (ttype_of h n))) (ttype_of h n) ≡ accepted) where
      pub by_sixteen : column_check h n ≡ before (check16 h n f.form) (check17 h n f.form)
      unfolding column_check first_refusal
      by_sixteen = rw (four, five, form, name) (ap (before (check16 h n f.form)) (before_accepted (check17 h n f.form)))

      -- is not refused with 16 without the two keywords, nor with one or both of them where it is scaled by numbers
      pub column_unscaled : scaling_given h n ≡ false → column_check h n ≡ check17 h n f.form
      column_unscaled none = by_sixteen ∙ rw (unscaled h n none 0 f.form).2

      pub column_scaled : Scales f.form → column_check h n ≡ check17 h n f.form
      column_scaled s = by_sixteen ∙ rw (scaled f.form s)

      -- and is refused with 16 and its number in any other case
      pub bad_scaling : scaling_given h n ≡ true → (Scales f.form → ⊥) → column_check h n ≡ refused 16 n
      unfolding check16
      bad_scaling given bad =
          by_sixteen
          ∙ either (scaling_ok h n f.form) (λ t. absurd (bad (ok_scales f.form t))) (λ t. rw (given, t))
