-- `copy` meets its contract: the text is in the place of as many bytes.
use Rattle.std.proofs.Common.{length, refl}
use Rattle.ascii.proofs.Lengths.{put_between}
use Rattle.ascii.proofs.buffer.copy.Goals as goal

pub returns-clause-buffer : goal.returns-clause-buffer
returns-clause-buffer c =
    let a = c.args in
    put_between a.out.now a.at (length a.text.now) a.text.now c.copy_from_slice.new.self refl c.copy_from_slice.ensures.after
