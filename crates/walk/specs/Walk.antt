-- The plain walk, over the plain lists of a table's rows and the number of its rows (FORMAT.md, section 13). `Reply`, `State` and `Outcome` are
-- the walk's; a cursor's `Result` is in Step, and what the code returns is an `Answer` in a `Stepped`.
-- Assumes nothing.
use Rattle.std.specs.Prelude.{ℕ, zero, suc, ◌+◌, ◌-◌, min, Bool, cond, ◌&&◌, ◌||◌, List, [], ◌∷◌, ◌++◌, length, get_or, drop, eqb, leb, ltb}
use Rattle.cell.specs.declared.Cell.{Cell}
use Rattle.walk.specs.declared.Entry.{Entry}
use Rattle.walk.specs.declared.Entry.TheVariants as E
use Rattle.layout.specs.declared.BinTable.{BinTable}
use Rattle.walk.specs.declared.How.{How}
use Rattle.walk.specs.Scaled.{in_reading}

-- a step's arguments: a read has its reading, a row read its list as lent too, a seek its row
pub data Step : Type 0 where
  read_cell : How → Step
  read_row : How → List Cell → Step
  seek : ℕ → Step

-- what a step answers: a cell, the count of a row read, that the row was sought, the end, or the number and place of a refusal
pub data Reply : Type 0 where
  got_cell : Cell → Reply
  got_row : ℕ → Reply
  sought : Reply
  at_end : Reply
  refused : ℕ → ℕ → Reply

-- what the walk keeps: the request's term "place", which is a row and the entries passed in it, and the count
pub record State : Type 0 where
  pub row : ℕ
  pub passed : ℕ
  pub count : ℕ

-- all 0 at opening
abbrev pub start : State
start = record { row = 0; passed = 0; count = 0 }

-- a step's answer, what the list lent holds afterwards (nothing, where none is lent), and what the walk then keeps
pub record Outcome : Type 0 where
  pub reply : Reply
  pub list : List Cell
  pub state : State

-- the list lent with a step
abbrev pub lent : Step → List Cell
lent (read_cell how) = []
lent (read_row how list) = list
lent (seek r) = []

-- where the count stops
abbrev pub stop : ℕ
stop = 4294967295

-- the cells that a step hands out with an answer. The step does not matter while there is one count for all
abbrev pub handed : Step → Reply → ℕ
handed x (got_cell c) = 1
handed x (got_row k) = k
handed x sought = 0
handed x at_end = 0
handed x (refused n p) = 0

-- what is kept, at another place
abbrev pub placed : State → ℕ → ℕ → State
placed s r p = record { row = r; passed = p; count = s.count }

-- what is kept, with k more cells of step x counted: a count that would pass the stop is the stop. The step does not matter here either
abbrev pub grown : State → Step → ℕ → State
grown s x k = record { row = s.row; passed = s.passed; count = min stop (s.count + k) }

-- a step that is refused, with its list as lent, moves nothing
abbrev pub refusal : State → Step → ℕ → ℕ → Outcome
refusal s x n p = record { reply = refused n p; list = lent x; state = s }

-- the next entry and its place, or none left
pub data Next : Type 0 where
  entry_at : ℕ → ℕ → Entry → Next
  no_entry : Next

-- the cells of some entries, or the column of the first refusal 13 among them
pub data Gathered : Type 0 where
  all_cells : List Cell → Gathered
  outside : ℕ → Gathered

abbrev pub before : Cell → Gathered → Gathered
before c (all_cells cs) = all_cells (c ∷ cs)
before c (outside k) = outside k

unfoldable pub gather : List Entry → Gathered
gather [] = all_cells []
gather (E.Cell c ∷ es) = before c (gather es)
gather (E.OutsideHeap k ∷ es) = outside k

-- the place after entry p of row r, which has `size` entries: passing a row's last entry leads to the start of the next row
abbrev pub pass : State → ℕ → ℕ → ℕ → State
pass s size r p = cond (ltb (suc p) size) (placed s r (suc p)) (placed s (suc r) 0)

-- a cell read at that entry: a cell is handed out and passed; at a 13 nothing moves. The entry is one of the read's reading
abbrev pub entry_outcome : State → How → ℕ → ℕ → ℕ → Entry → Outcome
entry_outcome s how size r p (E.Cell c) = record { reply = got_cell c; list = []; state = pass (grown s (read_cell how) 1) size r p }
entry_outcome s how size r p (E.OutsideHeap k) = refusal s (read_cell how) 13 k

-- a seek to the start of row r of n rows: at a 12 nothing moves
abbrev pub seek_outcome : ℕ → State → ℕ → Outcome
seek_outcome n s r = cond (ltb r n) (record { reply = sought; list = []; state = placed s r 0 }) (refusal s (seek r) 12 r)

-- `rows r` is the list of row r, the plain one or that of the other reading, and n the number of rows
module _ (rows : ℕ → List Entry) (n : ℕ) where
  -- a place belongs if its row is below n with 0 entries passed or fewer than that row has, or is n with 0
  unfoldable pub place_ok : ℕ → ℕ → Bool
  place_ok r p = cond (ltb r n) (eqb p 0 || ltb p (length (rows r))) (eqb r n && eqb p 0)

  -- the next entry from the place r, p on, passing rows that have none left; k is the number of rows from r on. The default of the
  -- lookup is never taken, since p is an index of the row
  unfoldable pub next : ℕ → ℕ → ℕ → Next
  next zero r p = no_entry
  next (suc k) r p =
      let later = next k (suc r) 0 in
      cond (ltb p (length (rows r))) (entry_at r p (get_or (rows r) p (E.OutsideHeap 0))) later

  -- a cell read: with no entry left the place is row n
  abbrev pub cell_outcome : State → How → Next → Outcome
  cell_outcome s how no_entry = record { reply = at_end; list = []; state = placed s n 0 }
  cell_outcome s how (entry_at r p e) = entry_outcome s how (length (rows r)) r p e

  -- a row read: the rest of the row's cells to the front of the list, then the next row's start; the first 13 comes before 14
  abbrev pub row_outcome : State → How → List Cell → Gathered → Outcome
  row_outcome s how list (outside k) = refusal s (read_row how list) 13 k
  row_outcome s how list (all_cells cs) =
      cond (leb (length cs) (length list))
      (record {
        reply = got_row (length cs);
        list = cs ++ drop (length cs) list;
        state = placed (grown s (read_row how list) (length cs)) (suc s.row) 0;
      })
      (refusal s (read_row how list) 14 (length cs))

  -- the next entry, and what is left of the row
  abbrev pub next_entry : State → Next
  next_entry s = next (n - s.row) s.row s.passed

  abbrev pub rest : State → Gathered
  rest s = gather (drop s.passed (rows s.row))

  -- the entries of k rows from row r on, in their order
  unfoldable pub entries_from : ℕ → ℕ → List Entry
  entries_from r zero = []
  entries_from r (suc k) = rows r ++ entries_from (suc r) k

  -- those that are left of k rows from the place r, p on
  abbrev pub entries_left : ℕ → ℕ → ℕ → List Entry
  entries_left zero r p = []
  entries_left (suc k) r p = drop p (rows r) ++ entries_from (suc r) k

-- `rows r` is the plain list of row r of a layout, and n the number of rows
module _ (l : BinTable) (rows : ℕ → List Entry) (n : ℕ) where
  unfoldable pub walk_step : State → Step → Outcome
  walk_step s (read_cell how) =
      let seen = in_reading l how.reading rows in
      cell_outcome seen n s how (next_entry seen n s)
  walk_step s (read_row how list) =
      let seen = in_reading l how.reading rows in
      cond (ltb s.row n) (row_outcome seen n s how list (rest seen n s)) (record { reply = at_end; list = list; state = s })
  walk_step s (seek r) = seek_outcome n s r

  -- the request's term "plain walk": the outcome of each step, from what is kept on. `plain_walk` in Step has what it is fed
  unfoldable pub walk : State → List Step → List Outcome
  walk s [] = []
  walk s (x ∷ xs) = let o = walk_step s x in o ∷ walk o.state xs
