-- What the search for a missing name needs.
-- Assumes nothing.
use Rattle.std.proofs.Common.{◌≡◌, Option, Some, None, refl, Bor}
use Rattle.std.specs.Option.{option_copied, option_map}

-- the value behind a reference, in the library's two words for it
pub copied_value : {A : Type 0} (o : Option (Bor A)) → option_copied o ≡ option_map (λ (b : Bor A). b.now) o
copied_value None = refl
copied_value (Some b) = refl
