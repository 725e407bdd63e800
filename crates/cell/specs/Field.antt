-- What a field stands for: its items, the array that its descriptor names, the descriptor, or no item (FORMAT.md,
-- section 12; the standard, 7.3.1 and 7.3.5).
-- Assumes nothing.
use Rattle.std.specs.Prelude.{ℕ, ◌+◌, ◌*◌, ◌≤◌, Bool, cond, List, eqb, leb}
use Rattle.tform.specs.declared.VariableArrayTy.{VariableArrayTy}
use Rattle.tform.specs.declared.TFormType.{TFormType}
use Rattle.tform.specs.declared.TFormType.TheVariants as F
use Rattle.tform.specs.Width.{items}
use Rattle.layout.specs.declared.Column.{Column}
use Rattle.cell.specs.declared.DataValue.TheVariants.{VariableLengthArray32, VariableLengthArray64}
use Rattle.cell.specs.declared.Field.{Field}
use Rattle.cell.specs.declared.Field.TheVariants.{Items, Descriptor, OutsideHeap}
use Rattle.cell.specs.Item.{word, width}

-- no item: what an array of count 0 gives, and a field of P or Q with the count 0. The place 0 means nothing
abbrev pub no_items : VariableArrayTy → Field
no_items ty = Items ty 0 0

-- the array of a descriptor with the count n and the byte offset o, in a heap from byte theap up to, and without, byte
-- `end`. Count 0 gives no item, with any offset. An array that ends past the heap is refused. Any other, count 0
-- included, is what the request's term "sound" means: it gives `Items`.
unfoldable pub array : ℕ → ℕ → VariableArrayTy → ℕ → ℕ → Field
array theap end ty n o =
    cond (eqb n 0)
    (no_items ty)
    (cond (leb (theap + o + items ty n * width ty) end) (Items ty (theap + o) (items ty n)) OutsideHeap)

-- a descriptor of two numbers of 32 bits, and one of 64: followed where the heap is on
unfoldable pub field32 : List ℕ → ℕ → VariableArrayTy → Bool → ℕ → ℕ → Field
field32 a p ty heap theap end =
    cond heap (array theap end ty (word a p 4) (word a (p + 4) 4)) (Descriptor (VariableLengthArray32 (word a p 4) (word a (p + 4) 4)))

unfoldable pub field64 : List ℕ → ℕ → VariableArrayTy → Bool → ℕ → ℕ → Field
field64 a p ty heap theap end =
    cond heap (array theap end ty (word a p 8) (word a (p + 8) 8)) (Descriptor (VariableLengthArray64 (word a p 8) (word a (p + 8) 8)))

-- the field of a form and a count at place p. P and Q have one descriptor or, at count 0, none: the request's term
-- "empty field". With the heap on or off it stands for no item, and no byte is looked at
abbrev pub field_by : List ℕ → ℕ → TFormType → ℕ → Bool → ℕ → ℕ → Field
field_by a p (F.Items ty) n heap theap end = Items ty p (items ty n)
field_by a p (F.P ty) n heap theap end = cond (eqb n 0) (no_items ty) (field32 a p ty heap theap end)
field_by a p (F.Q ty) n heap theap end = cond (eqb n 0) (no_items ty) (field64 a p ty heap theap end)

-- the field of a column at place p
unfoldable pub field : List ℕ → ℕ → Column → Bool → ℕ → ℕ → Field
field a p column heap theap end = field_by a p column.form column.count heap theap end

-- how many entries a field has in the row's plain list
abbrev pub size_of : Field → ℕ
size_of (Items ty at n) = n
size_of (Descriptor v) = 1
size_of OutsideHeap = 1

-- the items of a field end at byte `end` at the latest
abbrev pub ItemsInside : ℕ → Field → Type 0
ItemsInside end (Items ty at n) = at + n * width ty ≤ end
ItemsInside end (Descriptor v) = Unit {0}
ItemsInside end OutsideHeap = Unit {0}
