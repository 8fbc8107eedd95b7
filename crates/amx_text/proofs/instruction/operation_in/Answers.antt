use Rattle.std.proofs.Common.{◌∙◌, sym}
use Rattle.amx_text.proofs.OperationSteps.{within_rows, row_named, no_row_named}
use Rattle.amx_text.proofs.instruction.operation_in.Goals as goal

pub bounds-rows-place : goal.bounds-rows-place
bounds-rows-place c =
    within_rows c.args.rows.now c.args.name.now c.in_ok-place.place c.requires.rows
    (sym (rw c.requires.names at c.in_ok-place.ensures))

pub returns-in_err-place : goal.returns-in_err-place
returns-in_err-place c =
    c.from_residual.ensures
    ∙ sym (no_row_named c.args.name.now (sym (rw c.requires.names at c.in_err-place.ensures)))

pub returns : goal.returns
returns c =
    sym (row_named c.args.rows.now c.args.name.now c.in_ok-place.place _ c.requires.rows
    (sym (rw c.requires.names at c.in_ok-place.ensures)))
