-- `as_value` meets its contract: an integer of 18 digits fits 64 bits.
use Rattle.std.proofs.Common.{sym, ◌∙◌, ap, arith, FitsSigned, w64}
use Rattle.std.specs.Int.{w128}
use Rattle.std.proofs.lemmas.Int.{to_z-of_z, fits_signed_from_abs}
use Rattle.card.specs.Value.{as_value}
use Rattle.card.proofs.Integers.{integer_small}
use Rattle.card.proofs.field.as_value.Goals as goal

pub overflow_cast-result : goal.overflow_cast-result
overflow_cast-result c =
    let z = c.in_ok-number.number in
    let small = integer_small _ z c.args.s.now (sym c.integer_value.ensures ∙ c.in_ok-number.was) in
    let wide : FitsSigned w128 z = fits_signed_from_abs w128 z (omega (arith, small)) in
    simp to_z-of_z (fits_signed_from_abs w64 z (omega (arith, small)))

pub returns : goal.returns
returns c =
    let z = c.in_ok-number.number in
    let small = integer_small _ z c.args.s.now (sym c.integer_value.ensures ∙ c.in_ok-number.was) in
    let wide : FitsSigned w128 z = fits_signed_from_abs w128 z (omega (arith, small)) in
    let fits : FitsSigned w64 z = fits_signed_from_abs w64 z (omega (arith, small)) in
    simp to_z-of_z (ap as_value (sym c.in_ok-number.was ∙ c.integer_value.ensures))
