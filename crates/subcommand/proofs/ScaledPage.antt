-- A column of an accepted header in which its TSCALn or its TZEROn stands has no page.
-- Assumes nothing.
use Prim.Native.Nat.{ℕ, ◌+◌, ◌<◌}
use mathlib.Core.Path.{◌≡◌, ◌∙◌}
use mathlib.Core.Bool.{true}
use mathlib.Core.List.{List}
use Rattle.layout.specs.declared.BinTable.{BinTable}
use Rattle.bintable.specs.Checks.{scaling_given}
use Rattle.bintable.specs.Entry.{entry, accepted}
use Rattle.bintable.proofs.Scaled.{scaling_read}
use Rattle.walk.proofs.Isolation.{entry_fits}
use Rattle.profile.specs.Page.{refused, page_reply}
use Rattle.profile.proofs.Calls.{scaled_page}

-- column c, from 0, is that of n = c + 1
pub no_scaled_page : (h a : List ℕ) (l : BinTable) → entry h a ≡ accepted l → (c r number room : ℕ) → c < l.tfields
    → scaling_given h (c + 1) ≡ true → page_reply l a c r number room ≡ refused 15 0
no_scaled_page h a l taken c r number room p given =
    scaled_page l a c r number room (entry_fits h a l taken) ((scaling_read h a l taken c p).0 ∙ given)
