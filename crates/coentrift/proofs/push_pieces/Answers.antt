-- `push_pieces` keeps its invariant: one piece more at the end.
use Rattle.std.proofs.Common.{◌≡◌, ◌+◌, ◌<◌, List, ℕ, [], ◌∷◌, ◌++◌, length, map, take, get_or, Bor}
use Rattle.std.proofs.Common.{sym, ap, ◌∙◌, append_assoc}
use Rattle.std.proofs.lemmas.List.{append-nil, map_more}
use Rattle.std.proofs.lemmas.List.Folds.{concat-append}
use Rattle.std.specs.List.{concat}
use Rattle.coentrift.proofs.push_pieces.Goals as goal

-- the text of the first i pieces, and of one more
abbrev first : List (Bor (List ℕ)) → ℕ → List ℕ
first ps i = concat (map (λ (p : Bor (List ℕ)). p.now) (take i ps))

one_more : (ps : List (Bor (List ℕ))) (i : ℕ) (d : Bor (List ℕ)) → i < length ps
    → first ps (i + 1) ≡ first ps i ++ (get_or ps i d).now
one_more ps i d h =
    let now : Bor (List ℕ) → List ℕ = λ p. p.now in
    let p = (get_or ps i d).now in
    ap concat (map_more now ps i d h) ∙ concat-append (map now (take i ps)) (p ∷ [])
    ∙ ap (λ (t : List ℕ). first ps i ++ t) (append-nil p)

pub loop-piece-preserved : goal.loop-piece-preserved
loop-piece-preserved c =
    let old = c.args.text.now.items in
    let ps = c.args.pieces.now in
    let i = c.loop-piece.piece-index in
    let none : Bor (List ℕ) = record { ref_ptr = (0, 0); now = [] } in
    let p = (get_or ps i none).now in
    let e : c.extend_from_slice.new.self.items ≡ c.loop-piece.text.items ++ p =
    c.in_ok-extend_from_slice.ensures.items in
    e ∙ ap (λ (t : List ℕ). t ++ p) c.loop-piece.invariant ∙ append_assoc old (first ps i) p
    ∙ ap (λ (t : List ℕ). old ++ t) (sym (one_more ps i none c.loop-piece-test.true))
