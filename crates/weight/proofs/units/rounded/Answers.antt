-- `rounded` meets its contract: one shifted to the left is the power of two.
use Rattle.std.proofs.Common.{◌≡◌, ◌<◌, ◌^◌, ◌*◌, ℕ, ◌%◌, arith}
use lib.Dec.{lit<}
use lib.Pow.{shl_exact}
use borrow.Author.Tests.{lt-ltb, le-ltb}
use Rattle.weight.specs.Weight.{rounded}
use Rattle.weight.proofs.units.rounded.Goals as goal

one : (k : ℕ) → k < 32 → 1 * 2 ^ k % 18446744073709551616 ≡ 2 ^ k
one k h = let e : 1 * 2 ^ k % 2 ^ 64 ≡ 1 * 2 ^ k = shl_exact {a = 1} 1 k 64 (lit< tt) (omega arith) in omega arith

pub returns-then-twice-one : goal.returns-then-twice-one
unfolding rounded
returns-then-twice-one c =
    let a = c.args in
    let h = rw (one a.shift c.requires.shift) at c.if-twice-one.true in
    rw (lt-ltb (a.num % 2 ^ a.shift * 2) (2 ^ a.shift) h)

pub returns-then-one-twice : goal.returns-then-one-twice
unfolding rounded
returns-then-one-twice c =
    let a = c.args in
    let e = one a.shift c.requires.shift in
    let h = rw e at c.if-twice-one.false in
    let l = rw e at c.if-one-twice.true in
    rw (le-ltb (a.num % 2 ^ a.shift * 2) (2 ^ a.shift) h, lt-ltb (2 ^ a.shift) (a.num % 2 ^ a.shift * 2) l)

pub returns-else-one-twice : goal.returns-else-one-twice
unfolding rounded
returns-else-one-twice c =
    let a = c.args in
    let e = one a.shift c.requires.shift in
    let h = rw e at c.if-twice-one.false in
    let l = rw e at c.if-one-twice.false in
    rw (le-ltb (a.num % 2 ^ a.shift * 2) (2 ^ a.shift) h, le-ltb (2 ^ a.shift) (a.num % 2 ^ a.shift * 2) l)
    c.halfway.ensures
