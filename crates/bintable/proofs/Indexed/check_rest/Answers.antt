-- `check_rest` meets its contract. The sizes are within their limits, so that THEAP's range fits.
use Rattle.std.proofs.Common.{arith}
use Rattle.bintable.proofs.Bounds.{size_limits, main_limit}
use Rattle.bintable.proofs.Indexed.check_rest.Goals as goal

pub overflow_mul-naxis1 : goal.overflow_mul-naxis1
overflow_mul-naxis1 c = rw (c.size-naxis1.ensures, c.size-naxis2.ensures) (omega (arith, main_limit c.args.self.now.header.now c.requires))

pub check_theap-requires : goal.check_theap-requires
check_theap-requires c =
    let h = c.args.self.now.header.now in
    rw (c.size-naxis1.ensures, c.size-naxis2.ensures, c.size-pcount.ensures) (omega (arith, main_limit h c.requires, size_limits h c.requires))
