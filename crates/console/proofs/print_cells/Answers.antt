-- `print_cells` meets its contract: the bytes that were read are no more than the programs look at, and all their lines are printed.
use Rattle.std.proofs.Common.{◌≤◌, length, arith}
use lib.Seq.{take_all}
use Rattle.output.specs.Cells.{file_limit}
use Rattle.console.proofs.print_cells.Goals as goal

pub returns : goal.returns
returns c =
    let f = c.read_file-file.result.now in
    let few : length f ≤ file_limit = omega (arith, c.read_file-file.ensures, c.file_buffer-buffer.ensures) in
    (f, few, rw (take_all file_limit f few, c.cells_start-state.ensures.layout) at c.print_pages.ensures)
