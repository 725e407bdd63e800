-- Fields that take no bytes: P and Q of count 0, and items of count 0. They have no entry in the plain list, and `Agree`
-- asks nothing of them. And a layout with a count above its limit, as 2 is for P and Q, gets a 10 from opening and from
-- every step.
-- Assumes nothing.
use Prim.Native.Nat.{ℕ, zero, suc, ◌+◌, ◌<◌}
use mathlib.Core.Path.{◌≡◌, refl, sym, ◌∙◌}
use mathlib.Core.Bool.{Bool, true, false, false≢true, and-false}
use mathlib.Core.List.{List, [], ◌∷◌}
use native.Mathlib.Nat.{zero-mul, not-suc-le-zero, le_of_suc-le-suc}
use native.Mathlib.Omega.{arith}
use lib.ListN.{get_or, take}
use lib.Dec.{eqb}
use borrow.Author.Tests.{lt-leb}
use Rattle.std.proofs.lemmas.List.{nil_from_length}
use Rattle.ascii.proofs.Cases.{by_test}
use Rattle.tform.specs.declared.VariableArrayTy.{VariableArrayTy}
use Rattle.tform.specs.declared.TFormType.TheVariants as T
use Rattle.tform.specs.Width.{count_ok}
use Rattle.layout.specs.declared.Column.{Column}
use Rattle.layout.specs.declared.BinTable.{BinTable}
use Rattle.layout.specs.Layout.{no_column, column_bytes, data_size, columns_ok, layout_ok}
use Rattle.cell.specs.declared.Field.{Field}
use Rattle.cell.specs.declared.Field.TheVariants as F
use Rattle.cell.specs.Field.{size_of}
use Rattle.cell.proofs.Empty.{empty_field}
use Rattle.walk.specs.declared.TableData.{TableData}
use Rattle.walk.specs.declared.Entry.{Entry}
use Rattle.walk.specs.Plain.{column_of, field_at, field_of, chosen, column_entries}
use Rattle.walk.specs.Walk.{Step, lent, refused}
use Rattle.walk.specs.Step.{fits, belongs, Selection, not_opened, open_with, cursor_step}
use Rattle.walk.specs.Agree.{Same, SameItems, Agree}
use Rattle.walk.proofs.Laws.{entries_length}

-- ---- P and Q of count 0

pub empty_p : (c : Column) (ty : VariableArrayTy) → c.form ≡ T.P ty → c.count ≡ 0 → column_bytes c ≡ 0
empty_p c ty f n = rw (f, n, zero-mul)

pub empty_q : (c : Column) (ty : VariableArrayTy) → c.form ≡ T.Q ty → c.count ≡ 0 → column_bytes c ≡ 0
empty_q c ty f n = rw (f, n, zero-mul)

-- ---- the plain list

module _ (l : BinTable) (a : List ℕ) (heap : Bool) (r c : ℕ) (e : column_bytes (column_of l c) ≡ 0) where
  no_entry : size_of (field_of l a heap r c) ≡ 0
  unfolding field_of
  no_entry = empty_field a (field_at l r c) (column_of l c) heap l.theap (data_size l) e

  -- such a column adds nothing to it, chosen or not
  pub empty_entries : (choice : ℕ) → column_entries l a choice heap r c ≡ []
  unfolding column_entries
  empty_entries choice =
      by_test (λ (es : List Entry). es ≡ []) (chosen choice c)
      (λ t. nil_from_length _ (entries_length (column_of l c) a r c (field_of l a heap r c) ∙ no_entry)) (λ t. refl)

-- ---- two areas

same_none : (a b : List ℕ) (p n : ℕ) → n ≡ 0 → Same a b p n
same_none a b p n e i l u = absurd (omega (arith, e, l, u))

same_items : (a b : List ℕ) (f : Field) → size_of f ≡ 0 → SameItems a b f
same_items a b (F.Items ty at n) e = same_none a b at _ (rw (e, zero-mul))
same_items a b (F.Descriptor v) e = tt
same_items a b F.OutsideHeap e = tt

-- a number is some or none; std says it of an Option alone
some_or_none : (n : ℕ) {P : Type 0} → (0 < n → P) → (n ≡ 0 → P) → P
some_or_none zero f g = g refl
some_or_none (suc n) f g = f (omega arith)

-- areas that agree in the fields that take bytes, and in the arrays that these name, agree
pub agree_without : (l : BinTable) (a b : List ℕ) (choice : ℕ) (heap : Bool)
    → ((r c : ℕ) → r < l.naxis2 → c < l.tfields → chosen choice c ≡ true → 0 < column_bytes (column_of l c)
    → Same a b (field_at l r c) (column_bytes (column_of l c)) × SameItems a b (field_of l a heap r c))
    → Agree l a b choice heap
agree_without l a b choice heap h =
    record {
      fields = λ r c u v t.
          some_or_none (column_bytes (column_of l c)) (λ k. (h r c u v t k).0) (λ e. same_none a b (field_at l r c) _ e);
      arrays = λ r c u v t.
          some_or_none (column_bytes (column_of l c)) (λ k. (h r c u v t k).1)
          (λ e. same_items a b (field_of l a heap r c) (no_entry l a heap r c e));
    }

-- ---- a count above its limit

over_limit : (end at : ℕ) (cs : List Column) (n k : ℕ) → k < n
    → count_ok (get_or cs k no_column).form (get_or cs k no_column).count ≡ false
    → columns_ok end at (take n cs) ≡ false
unfolding columns_ok
over_limit end at cs zero k h e = absurd (not-suc-le-zero h)
over_limit end at [] (suc n) k h e = absurd (false≢true (sym e))
over_limit end at (c ∷ cs) (suc n) zero h e = rw e
over_limit end at (c ∷ cs) (suc n) (suc k) h e =
    rw (over_limit end (at + column_bytes c) cs n k (le_of_suc-le-suc h) e, and-false (eqb c.start at))
    (and-false (count_ok c.form c.count))

module _ (l : BinTable) (k : ℕ) (h : k < l.tfields) (e : count_ok (column_of l k).form (column_of l k).count ≡ false) where
  pub over_layout : layout_ok l ≡ false
  unfolding layout_ok
  over_layout =
      rw (
        over_limit l.naxis1 0 l.columns l.tfields k h e,
        and-false,
        and-false,
        and-false,
        and-false,
        and-false,
        and-false,
      )

  pub over_opening : (a : List ℕ) (sel : Selection) (heap : Bool) → open_with l a sel heap ≡ not_opened 10
  unfolding open_with fits
  over_opening a sel heap = rw over_layout

  pub over_step : (a : List ℕ) (c : TableData) (x : Step)
      → cursor_step l a c x ≡ record { reply = refused 10 0; cursor = c; list = lent x }
  unfolding cursor_step belongs fits
  over_step a c x = rw over_layout

-- P and Q of a count above 1 are such columns
pub two_p : (c : Column) (ty : VariableArrayTy) → c.form ≡ T.P ty → 1 < c.count → count_ok c.form c.count ≡ false
two_p c ty f h = rw f (lt-leb c.count 1 h)

pub two_q : (c : Column) (ty : VariableArrayTy) → c.form ≡ T.Q ty → 1 < c.count → count_ok c.form c.count ≡ false
two_q c ty f h = rw f (lt-leb c.count 1 h)
