-- What `vectors` prints.
-- Assumes nothing.
use Rattle.std.specs.Prelude.{ℕ, ◌+◌, cond, List, [], ◌∷◌, ◌++◌, eqb, Option, None, Some}
use Rattle.ascii.specs.Text.{bytes}
use Rattle.ascii.specs.Number.{decimal_text}
use Rattle.cases.specs.declared.count.Tally.{Tally}

-- `N cases, M`
unfoldable pub counts_text : Tally → List ℕ
counts_text t = decimal_text t.cases ++ (bytes " cases, " ++ decimal_text t.differ)

-- of n cases that differ, by the number of the first: ` differ`, ` differs: case K`, ` differ: case K first`
abbrev pub differ_by : ℕ → Option ℕ → List ℕ
differ_by n None = bytes " differ"
differ_by n (Some k) =
    cond (eqb n 1) (bytes " differs: case " ++ decimal_text k) (bytes " differ: case " ++ (decimal_text k ++ bytes " first"))

unfoldable pub differ_text : Tally → List ℕ
differ_text t = differ_by t.differ t.first

-- `; case N is cut`, where the file ends within the case after the last one
unfoldable pub cut_text : Tally → List ℕ
cut_text t = cond t.cut (bytes "; case " ++ (decimal_text (t.cases + 1) ++ bytes " is cut")) []

-- one line, with its line feed
unfoldable pub report_text : Tally → List ℕ
report_text t = counts_text t ++ (differ_text t ++ (cut_text t ++ (10 ∷ [])))
