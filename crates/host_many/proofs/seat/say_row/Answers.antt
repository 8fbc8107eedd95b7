use Rattle.std.proofs.Common.{◌++◌, ap, append-nil}
use Rattle.std.proofs.lemmas.Result.{err_from_is_err_and}
use Rattle.pawn_outside.specs.Taken.{joined}
use Rattle.pawn_outside.proofs.SaidLaws.{said_as, said_then, said_cut}
use Rattle.host_many.proofs.seat.say_row.Goals as goal

pub returns-in_err-say : goal.returns-in_err-say
returns-in_err-say g c =
    let is = err_from_is_err_and c.from_residual.result c.from_residual.ensures.1 in
    said_cut c.args.line.now c.from_residual.result is.1 c.in_err-say.ensures

pub returns : goal.returns
returns g c =
    said_as (ap (λ t. joined c.args.front.now ++ t) (append-nil c.args.line.now))
    (said_then c.in_ok-say.ensures c.say-2.ensures)
