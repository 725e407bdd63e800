-- `put_line` meets its contract: each piece goes behind those before it, and all of them are as long as the line.
use Rattle.std.proofs.Common.{ℕ, ◌≡◌, List, [], ◌∷◌, ◌++◌, length, ◌∙◌, arith, length-append, append_assoc}
use Rattle.std.specs.Float.{binary32}
use Rattle.std.specs.Float.Ieee.{of_bits}
use Rattle.ascii.specs.Number.{decimal_text, right_aligned}
use Rattle.weight.specs.Weight.{weight_text}
use Rattle.weight.proofs.Width.{weight_length}
use Rattle.profile.specs.Page.{profile_line}
use Rattle.profile.proofs.Puts.{written_put, put_whole, next_byte, next_part}
use Rattle.profile.proofs.Widths.{fills, row_fills, idx_fills}
use Rattle.profile.proofs.put_line.Goals as goal

pub returns : goal.returns
unfolding profile_line
returns c =
    let o = c.args.line.now in
    let weight = weight_text c.args.edition (of_bits binary32 c.args.bits) in
    let r : List ℕ = right_aligned 8 (decimal_text c.args.row) in
    let i : List ℕ = right_aligned 6 (decimal_text c.args.idx) in
    let w : List ℕ = right_aligned 10 weight in
    let lr : length r ≡ 8 = row_fills c.args.row c.requires.row in
    let li : length i ≡ 6 = idx_fills c.args.idx c.requires.idx in
    let lw : length w ≡ 10 = fills 10 weight (weight_length c.args.edition (of_bits binary32 c.args.bits)) in
    let s1 : List ℕ = r ++ (32 ∷ []) in
    let n1 : length s1 ≡ 9 = length-append r (32 ∷ []) ∙ omega arith in
    let s2 : List ℕ = s1 ++ i in
    let n2 : length s2 ≡ 15 = length-append s1 i ∙ omega arith in
    let s3 : List ℕ = s2 ++ (32 ∷ []) in
    let n3 : length s3 ≡ 16 = length-append s2 (32 ∷ []) ∙ omega arith in
    let s4 : List ℕ = s3 ++ w in
    let n4 : length s4 ≡ 26 = length-append s3 w ∙ omega arith in
    let s5 : List ℕ = s4 ++ (10 ∷ []) in
    let n5 : length s5 ≡ 27 = length-append s4 (10 ∷ []) ∙ omega arith in
    let p0 = c.put_number.ensures ∙ written_put o 0 r (omega arith) in
    let p1 = next_byte o r 8 _ p0 lr 32 (omega arith) in
    let p2 = next_part o s1 9 _ p1 n1 i _ (omega arith) c.put_number-2.ensures in
    let p3 = next_byte o s2 15 _ p2 n2 32 (omega arith) in
    let p4 = next_part o s3 16 _ p3 n3 w _ (omega arith) c.put.ensures in
    next_byte o s4 26 _ p4 n4 10 (omega arith)
    ∙ put_whole o s5 (omega arith)
    ∙ simp append_assoc
