-- What the laws on the text of a weight speak of: a text read as a number, and how near that is to an exact value. No
-- contract cites it.
-- Assumes nothing.
use Rattle.std.specs.Prelude.{ℕ, ◌≡◌, ◌+◌, ◌*◌, ◌^◌, ◌<◌, ◌≤◌, Bool, true, ◌&&◌, cond, List, [], ◌∷◌, ◌++◌}
use Rattle.std.specs.Prelude.{length, get_or, ltb, ℤ, Float}
use Rattle.std.specs.Float.{nan, inf, fin}
use Rattle.std.specs.Float.Ieee.{up, down}
use Rattle.std.specs.List.{list_all}
use Rattle.ascii.specs.Text.{digit, decimal}
use Rattle.weight.specs.declared.Edition.{Edition}
use Rattle.weight.specs.Weight.{decimals, units_of}

-- a text that is a number: a minus or none, digits, a point, digits; before the point one digit or more, and no zero
-- (48) in front of others
pub record Number (text : List ℕ) : Type 0 where
  pub negative : Bool
  pub before : List ℕ
  pub after : List ℕ
  pub parts : text ≡ cond negative (45 ∷ []) [] ++ (before ++ (46 ∷ after))
  pub some : 0 < length before
  pub plain : 1 < length before → 48 < get_or before 0 48
  pub digits : list_all digit (before ++ after) ≡ true

-- the units of its last decimal that it says
abbrev pub said : {text : List ℕ} → Number text → ℕ
said n = decimal 0 (n.before ++ n.after)

-- a text that is a number with the edition's decimals, within half a last place of num / den, which is below zero
-- where s is true; a zero has no minus
pub record WithinHalf (ed : Edition) (s : Bool) (num den : ℕ) (text : List ℕ) : Type 0 where
  pub number : Number text
  pub places : length number.after ≡ decimals ed
  pub high : said number * den * 2 ≤ num * 10 ^ decimals ed * 2 + den
  pub low : num * 10 ^ decimals ed * 2 ≤ said number * den * 2 + den
  pub sign : number.negative ≡ (s && ltb 0 (said number))

-- a text that says the exact value of a float so
abbrev pub Says : Edition → Float → List ℕ → Type 0
Says ed nan text = ⊥
Says ed (inf s) text = ⊥
Says ed (fin s m e) text = WithinHalf ed s (m * up e) (down e) text

-- the text of m * 2 ^ e, which says so many units as that is rounded to, has more than ten bytes
pub record TooLong (ed : Edition) (s : Bool) (m : ℕ) (e : ℤ) : Type 0 where
  pub text : List ℕ
  pub near : WithinHalf ed s (m * up e) (down e) text
  pub units : said near.number ≡ units_of ed m e
  pub long : 10 < length text

-- a float for which stars stand: it is no number, or its text would be too long
abbrev pub Unwritable : Edition → Float → Type 0
Unwritable ed nan = Unit {0}
Unwritable ed (inf s) = Unit {0}
Unwritable ed (fin s m e) = TooLong ed s m e
