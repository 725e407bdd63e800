-- `put_refusal` meets its contract: there is room for the line of any refusal.
use Rattle.std.proofs.Common.{[], ap, ◌∙◌, arith}
use Rattle.std.specs.Prelude.{unwrap_or}
use Rattle.ascii.proofs.Chain.{Put, fitted, front, place_of}
use Rattle.layout.specs.Layout.{empty_layout}
use Rattle.refusal.specs.Refusal.{number_of, place_of as refusal_place}
use Rattle.listing.specs.Lines.{refused_line}
use Rattle.listing.specs.declared.Line.TheVariants as L
use Rattle.listing.proofs.Short.{line_short}
use Rattle.subcommand.proofs.answers.put_refusal.Goals as goal
use Rattle.subcommand.proofs.answers.put_refusal.Goals.{After-unwrap_or}

put : (c : After-unwrap_or)
    → Put c.args.out.now 0 (refused_line (number_of c.args.refusal) (refusal_place c.args.refusal))
    c.unwrap_or.result c.put_line.new.out
put c =
    let o = c.args.out.now in
    let t = refused_line (number_of c.args.refusal) (refusal_place c.args.refusal) in
    fitted o 0 t (omega (arith, line_short [] empty_layout (L.Refused c.args.refusal)))
    (c.unwrap_or.ensures ∙ ap (λ w. unwrap_or w 0) c.put_line.ensures.to ∙ place_of o 0 t, c.put_line.ensures.buffer)

pub returns-clause-len : goal.returns-clause-len
returns-clause-len c = omega (arith, (put c).0)

pub returns-clause-text : goal.returns-clause-text
returns-clause-text c =
    front c.args.out.now _ (omega (arith, (put c).0, line_short [] empty_layout (L.Refused c.args.refusal))) (put c)

pub returns-clause-buffer : goal.returns-clause-buffer
returns-clause-buffer c = (put c).1
