use Rattle.std.proofs.Common.{◌++◌, codes, append_assoc}
use Rattle.std.proofs.lemmas.Result.{err_from_is_err_and}
use Rattle.pawn_outside.proofs.SaidLaws.{said_as, said_then, said_cut}
use Rattle.host_script.specs.Text.{values_text}
use Rattle.host_script.proofs.arguments.say_cells.Goals as goal

pub returns-in_err-say : goal.returns-in_err-say
returns-in_err-say g c =
    let is = err_from_is_err_and c.from_residual.result c.from_residual.ensures.1 in
    said_cut (values_text c.args.values.now ++ codes "]") c.from_residual.result is.1
    c.in_err-say.ensures

pub returns-in_err-say_values : goal.returns-in_err-say_values
returns-in_err-say_values g c =
    let is =
    err_from_is_err_and c.from_residual-in_err-say_values.result
    c.from_residual-in_err-say_values.ensures.1 in
    said_as (append_assoc (codes " [") (values_text c.args.values.now) (codes "]"))
    (said_cut (codes "]") c.from_residual-in_err-say_values.result is.1
    (said_then c.in_ok-say.ensures c.in_err-say_values.ensures))

pub returns : goal.returns
returns g c =
    said_as (append_assoc (codes " [") (values_text c.args.values.now) (codes "]"))
    (said_then (said_then c.in_ok-say.ensures c.in_ok-say_values.ensures) c.say-2.ensures)
