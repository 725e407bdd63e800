-- `read_column` meets its contract: the stretch of a name fits.
use Rattle.std.proofs.Common.{◌≡◌, ◌+◌, sym, ◌∙◌}
use Rattle.bintable.specs.Checks.{value_at, ttype_of}
use Rattle.bintable.proofs.Filled.{value_fits}
use Rattle.bintable.proofs.Indexed.read_column.Goals as goal

pub name_in-requires : goal.name_in-requires
name_in-requires c =
    let h = c.args.self.now.header.now in let r = ttype_of h (c.args.i + 1) in
    let v : c.value.result ≡ value_at h r = cc in
    λ a n e. value_fits h r c.requires.0 a n (sym v ∙ e)
