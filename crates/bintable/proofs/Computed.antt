-- The entry of a header that is given as text, by computation: `unfolding computed` opens all that it goes through.
-- Assumes nothing.
use Prim.Native.Nat.{ℕ}
use mathlib.Core.List.{List, flat_map}
use Rattle.std.specs.Float.Ieee.{round, of_bits}
use Rattle.ascii.specs.Text.{bytes, same, front, spaces, trim, decimal}
use Rattle.card.specs.Ends.{follows, closing}
use Rattle.card.specs.Record.{card_at, is_end, has_value, name_of}
use Rattle.card.specs.Value.{digits_value, integer_value, string_value, value_from, field_value, value_of, wide_of}
use Rattle.keyword.specs.Names.{range, numeral, indexed, single, once_roots, once_names, position}
use Rattle.header.specs.Records.{records, has_end, before_end, names, second, repeated_after}
use Rattle.header.specs.Checks.{bad_length, check1, check2, check3, checked, names_read}
use Rattle.header.proofs.Texts.{padded, fixed, first_records}
use Rattle.real.specs.Real.{nearest, with_exponent, without_exponent, unsigned, real_at}
use Rattle.tform.specs.Width.{among, letter_width, can_scale, can_have_null}
use Rattle.tform.specs.Form.{repeat_count, element_among, element_of, first_element, kind_of, form_of}
use Rattle.layout.specs.Layout.{row_bytes}
use Rattle.bintable.specs.Checks.{scaling_given, twice, check16, check17, first_refusal}
use Rattle.bintable.specs.Entry.{required, limited, theap_check, nine, nine_checks, column_check, column_checks}
use Rattle.bintable.specs.Entry.{scaling_of, null_of, columns_from, layout_of, check9, check10, header_checks}
use Rattle.bintable.specs.Entry.{all_checks, Entry, entry}

unfoldable pub computed : List ℕ → List ℕ → Entry
unfolding padded fixed first_records bytes same front spaces trim follows decimal closing card_at is_end has_value
    name_of digits_value integer_value string_value value_from field_value value_of wide_of range numeral indexed
    single once_roots once_names flat_map position records has_end before_end names second repeated_after bad_length
    check1 check2 check3 checked names_read nearest with_exponent without_exponent unsigned real_at round of_bits
    among letter_width can_scale can_have_null repeat_count element_among element_of first_element kind_of form_of
    row_bytes first_refusal required limited theap_check nine nine_checks scaling_given twice check16 check17
    scaling_of null_of column_check column_checks columns_from layout_of check9 check10 header_checks all_checks
computed h a = entry h a
