-- What a page by a header comes to: the entry on the header and the data area, then the call on its layout.
-- Assumes nothing.
use Rattle.std.specs.Prelude.{ℕ, List}
use Rattle.bintable.specs.Entry as B
use Rattle.profile.specs.Page.{Reply, wrote, refused, page_reply, page_left}
use Rattle.exports.specs.Checksum.{with_number}

-- what an answer returns: how many bytes it wrote, or the number of its refusal, above a sum of 0
abbrev pub reply_number : Reply → ℕ
reply_number (wrote n) = n
reply_number (refused n p) = with_number n 0

-- what is returned: the number of the entry's refusal, or the call's answer
abbrev pub page_number : B.Entry → List ℕ → ℕ → ℕ → ℕ → ℕ → ℕ
page_number (B.accepted l) a column row edition room = reply_number (page_reply l a column row edition room)
page_number (B.refused n p) a column row edition room = with_number n 0

-- the buffer afterwards: as the call leaves it, and as it was where the entry refuses
abbrev pub page_buffer : B.Entry → List ℕ → ℕ → ℕ → ℕ → List ℕ → List ℕ
page_buffer (B.accepted l) a column row edition page = page_left l a column row edition page
page_buffer (B.refused n p) a column row edition page = page
