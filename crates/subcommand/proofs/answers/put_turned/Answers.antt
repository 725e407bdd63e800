-- `put_turned` meets its contract: the header, and after it as many bytes as the data area has.
use Rattle.std.proofs.Common.{◌-◌, ◌≤◌, ap, ◌∙◌, length, arith}
use borrow.Rule.Slice.PartMut.{put_mid}
use Rattle.ascii.specs.Buffer.{put_in}
use Rattle.ascii.proofs.Lengths.{part_put}
use Rattle.ascii.proofs.Chain.{Put, fitted, front, tried_as, joined}
use Rattle.header.specs.Records.{header_of, data_of}
use Rattle.header.proofs.Parted.{parted_length}
use Rattle.subcommand.specs.Ways.{area_by, file_by}
use Rattle.subcommand.proofs.Turning.{file_parts, turn_accepts, whole_length}
use Rattle.subcommand.proofs.answers.put_turned.Goals as goal
use Rattle.subcommand.proofs.answers.put_turned.Goals.{After-put-start, After-turn_area}

first : (c : After-put-start) → Put c.args.out.now 0 (header_of c.args.file.now) c.put-start.result c.put-start.new.out
first c =
    let f = c.args.file.now in
    fitted c.args.out.now 0 (header_of f) (omega (arith, parted_length f, c.requires.room))
    (tried_as c.args.out.now 0 c.split_file.ensures.header (c.put-start.ensures.place, c.put-start.ensures.buffer))

start_inside : (c : After-put-start) → c.put-start.result ≤ length c.args.file.now
start_inside c = omega (arith, (first c).0, parted_length c.args.file.now)

pub slice_bounds-turn_area-count : goal.slice_bounds-turn_area-count
slice_bounds-turn_area-count c = start_inside (goal.at.slice_bounds-turn_area-count c).After-put-start

pub slice_bounds-turn_area-start : goal.slice_bounds-turn_area-start
slice_bounds-turn_area-start c = start_inside (goal.at.slice_bounds-turn_area-start c).After-put-start

pub turn_area-requires : goal.turn_area-requires
turn_area-requires c =
    let p = (goal.at.turn_area-requires c).After-put-start in
    let f = c.args.file.now in
    record {
      accepted = rw c.split_file.ensures.data
          (turn_accepts f c.args.layout c.args.way c.requires.entered _
          (omega (arith, first p, parted_length f, c.requires.room)));
    }

all : (c : After-turn_area)
    → Put c.args.out.now 0 (file_by c.args.way c.args.layout c.args.file.now) (length c.args.file.now)
    (put_mid c.put-start.result (length c.args.file.now - c.put-start.result) c.put-start.new.out c.turn_area.new.to)
all c =
    let p = (goal.at.returns-clause-text c).After-put-start in
    let f = c.args.file.now in
    let o = c.put-start.new.out in
    let t = area_by c.args.way c.args.layout (data_of f) in
    let long = whole_length f c.args.layout c.args.way c.requires.entered in
    let is = c.turn_area.ensures ∙ ap (area_by c.args.way c.args.layout) c.split_file.ensures.data in
    let n = length f - c.put-start.result in
    let part = part_put o c.turn_area.new.to c.put-start.result n (omega (arith, (first p).0, ap length is, long)) in
    rw (file_parts c.args.way c.args.layout f)
    (joined c.args.out.now 0 (header_of f) t (omega (arith, c.requires.room)) (first p)
    (omega (arith, (first p).0, long), part ∙ ap (put_in o c.put-start.result) is))

pub returns-clause-len : goal.returns-clause-len
returns-clause-len c = omega (arith, (all c).0)

pub returns-clause-text : goal.returns-clause-text
returns-clause-text c = front c.args.out.now _ (omega (arith, c.requires.room)) (all c)

pub returns-clause-buffer : goal.returns-clause-buffer
returns-clause-buffer c = (all c).1
