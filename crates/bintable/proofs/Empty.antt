-- An empty file: the entry refuses it, since it has no header.
-- Assumes nothing.
use mathlib.Core.Path.{◌≡◌, refl}
use mathlib.Core.List.{[]}
use Rattle.header.specs.Records.{records, has_end, header_len, header_of, data_of}
use Rattle.header.specs.Checks.{bad_length, check1, checked}
use Rattle.keyword.specs.Names.{range}
use Rattle.bintable.specs.Checks.{first_refusal}
use Rattle.bintable.specs.Entry.{header_checks, all_checks, entry, refused}

pub empty_refused : entry (header_of []) (data_of []) ≡ refused 1 0
unfolding header_len records has_end range bad_length check1 checked header_checks all_checks first_refusal
empty_refused = refl
