use Rattle.std.proofs.Common.{◌++◌, [], ◌∙◌, ap}
use Rattle.std.proofs.lemmas.Result.{err_from_is_err_and}
use Rattle.pawn_outside.proofs.SaidLaws.{said_as, said_then, said_cut}
use Rattle.amx_text.specs.Lines.{address_text, cells_line}
use Rattle.amx_text.proofs.LineLaws.{data_parts}
use Rattle.amx_text.proofs.line.say_data.Goals as goal

pub returns-in_err-say : goal.returns-in_err-say
returns-in_err-say g c =
    let cells = cells_line c.args.cells.now in
    let is = err_from_is_err_and c.from_residual.result c.from_residual.ensures.1 in
    said_as (ap (λ a. (a ++ []) ++ cells) c.address.ensures
    ∙ data_parts (address_text c.args.at) cells)
    (said_cut cells c.from_residual.result is.1 c.in_err-say.ensures)

pub returns : goal.returns
returns g c =
    let cells = cells_line c.args.cells.now in
    said_as (ap (λ a. (a ++ []) ++ cells) c.address.ensures
    ∙ data_parts (address_text c.args.at) cells)
    (said_then c.in_ok-say.ensures c.say_cells.ensures)
