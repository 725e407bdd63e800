-- `next_step` meets its contract: the lines that are left, by the command of the line.
use Rattle.std.proofs.Common.{◌≡◌, Bool, ◌∙◌, sym, ◌+◌, ap, length, Some, None}
use mathlib.Core.Logic.{◌⊎◌, inl, inr}
use Rattle.steps.specs.declared.Command.{Command}
use Rattle.steps.specs.declared.Command.TheVariants as C
use Rattle.steps.proofs.Says.{row_few}
use Rattle.output.specs.Replay.{none}
use Rattle.output.proofs.Lines.{asked_of, steps_command, steps_none, cell_next_lem, seek_next_lem, row_next_lem}
use Rattle.output.proofs.Parts.next_step.Goals as goal

pub returns-then-self-at : goal.returns-then-self-at
returns-then-self-at c =
    steps_none c.args.self.now.layout.now c.args.self.now.area.now c.args.self.now.steps.now c.args.at c.args.cursor c.if-self-at.true

pub returns-in-Cell : goal.returns-in-Cell
returns-in-Cell c =
    let a = c.args in
    let line = c.line_at-line.result.now in
    let y = sym (c.in-Some.is ∙ ap Some c.in-Cell.is) ∙ c.parse_command.ensures in
    rw c.cell_answered-next.ensures
    (cell_next_lem a.self.now.header.now a.self.now.layout.now a.self.now.area.now a.self.now.steps.now (a.at + length line + 1) a.cursor
    c.in-Cell.how c.next_of.result c.next_of.ensures
    ∙ steps_command a.self.now.layout.now a.self.now.area.now a.self.now.steps.now a.at a.cursor line (Some (C.Cell c.in-Cell.how)) c.if-self-at.false c.line_at-line.ensures y)

pub returns-in-Row : goal.returns-in-Row
returns-in-Row c =
    let a = c.args in
    let line = c.line_at-line.result.now in
    let how = c.in-Row.how in
    let n = c.in-Row.cells in
    let y = sym (c.in-Some.is ∙ ap Some c.in-Row.is) ∙ c.parse_command.ensures in
    rw c.row_answered-next.ensures
    (row_next_lem a.self.now.header.now a.self.now.layout.now a.self.now.area.now a.self.now.steps.now (a.at + length line + 1) a.cursor
    how n c.row_cell-read.result.stepped
    (row_few line how n (sym y)) (rw c.blank_cell-blank.ensures at c.row_cell-read.ensures.step)
    ∙ steps_command a.self.now.layout.now a.self.now.area.now a.self.now.steps.now a.at a.cursor line (Some (C.Row how n)) c.if-self-at.false c.line_at-line.ensures y)

pub returns-in-Seek : goal.returns-in-Seek
returns-in-Seek c =
    let a = c.args in
    let line = c.line_at-line.result.now in
    let row = c.in-Seek.row in
    let y = sym (c.in-Some.is ∙ ap Some c.in-Seek.is) ∙ c.parse_command.ensures in
    rw c.seek_answered-next.ensures
    (seek_next_lem a.self.now.header.now a.self.now.layout.now a.self.now.area.now a.self.now.steps.now (a.at + length line + 1) a.cursor
    row c.seek_to_row_of-stepped.result c.seek_to_row_of-stepped.ensures
    ∙ steps_command a.self.now.layout.now a.self.now.area.now a.self.now.steps.now a.at a.cursor line (Some (C.Seek row)) c.if-self-at.false c.line_at-line.ensures y)

pub returns-in_default : goal.returns-in_default
returns-in_default c =
    let a = c.args in
    let y = sym c.in_default.is ∙ c.parse_command.ensures in
    rw c.bad_line.ensures
    (steps_command a.self.now.layout.now a.self.now.area.now a.self.now.steps.now a.at a.cursor c.line_at-line.result.now None c.if-self-at.false c.line_at-line.ensures y)

-- a command that sets something is no step
no_step : (k : Command) → ((k ≡ C.ChooseAll) ⊎ ((k ≡ C.Choose) ⊎ ((on : Bool) × (k ≡ C.Heap on)))) → asked_of (Some k) ≡ none
no_step k (inl e) = rw e
no_step k (inr (inl e)) = rw e
no_step k (inr (inr (on, e))) = rw e

pub returns-in-ChooseAll : goal.returns-in-ChooseAll
returns-in-ChooseAll c =
    let a = c.args in
    let y = sym c.in-Some.is ∙ c.parse_command.ensures in
    let s = steps_command a.self.now.layout.now a.self.now.area.now a.self.now.steps.now a.at a.cursor c.line_at-line.result.now (Some c.in-Some.command)
    c.if-self-at.false c.line_at-line.ensures y in
    rw c.bad_line-next.ensures (rw (no_step c.in-Some.command c.in-ChooseAll.is) at s)
