-- Runs of bytes: texts, spaces (FORMAT.md, section 2) and digits (section 3).
-- Assumes nothing.
use Rattle.std.specs.Prelude.{ℕ, suc, ◌+◌, ◌-◌, ◌*◌, List, [], ◌∷◌, Bool, true, false, ◌&&◌, cond, eqb, leb}
use Prim.Native.Char.{code}
use Prim.Native.String.{String}
use Prim.Native.String as S

-- the bytes of an ASCII text
unfoldable pub bytes : String → List ℕ
bytes S.[] = []
bytes (S.◌∷◌ c s) = code c ∷ bytes s

-- the same bytes
unfoldable pub same : List ℕ → List ℕ → Bool
same [] [] = true
same [] (b ∷ bs) = false
same (a ∷ xs) [] = false
same (a ∷ xs) (b ∷ ys) = eqb a b && same xs ys

-- how many bytes at the front pass a test
unfoldable pub front : (ℕ → Bool) → List ℕ → ℕ
front p [] = 0
front p (b ∷ bs) = cond (p b) (suc (front p bs)) 0

-- a space, byte 32 and no other
abbrev pub space : ℕ → Bool
space b = eqb b 32

-- a digit, 0 (48) to 9 (57)
abbrev pub digit : ℕ → Bool
digit b = leb 48 b && leb b 57

-- spaces only
unfoldable pub spaces : List ℕ → Bool
spaces [] = true
spaces (b ∷ bs) = space b && spaces bs

-- without trailing spaces
unfoldable pub trim : List ℕ → List ℕ
trim [] = []
trim (b ∷ bs) = cond (spaces (b ∷ bs)) [] (b ∷ trim bs)

-- the number that digits stand for, read on from the number n
unfoldable pub decimal : ℕ → List ℕ → ℕ
decimal n [] = n
decimal n (b ∷ bs) = decimal (n * 10 + (b - 48)) bs
