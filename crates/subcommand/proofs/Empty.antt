-- An empty text in a buffer.
-- Assumes nothing.
use Rattle.std.proofs.Common.{ℕ, ◌≡◌, List, [], refl}
use Rattle.ascii.specs.Buffer.{put_in}

pub put_nothing : (o : List ℕ) → put_in o 0 [] ≡ o
unfolding put_in
put_nothing o = refl
