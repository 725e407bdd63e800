-- The loop of `put_lines`: the lines so far stand at the front of the page.
use Rattle.std.proofs.Common.{◌≡◌}
use Rattle.ascii.specs.Buffer.{put_in}
use Rattle.profile.specs.Lines.{lines}
use Rattle.profile.proofs.put_lines.Given as goal

abbrev pub invariant-loop-i : goal.invariant-loop-i
invariant-loop-i l = l.page ≡ put_in l.initial.page 0 (lines l.field l.edition l.i)
