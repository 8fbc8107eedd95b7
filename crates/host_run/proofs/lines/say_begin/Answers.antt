use Rattle.std.proofs.Common.{◌++◌, codes}
use Rattle.std.proofs.lemmas.Result.{err_from_is_err_and}
use Rattle.pawn_outside.proofs.SaidLaws.{said_then, said_cut}
use Rattle.host_run.proofs.lines.say_begin.Goals as goal

pub returns-in_err-say : goal.returns-in_err-say
returns-in_err-say g c =
    let is = err_from_is_err_and c.from_residual.result c.from_residual.ensures.1 in
    said_cut (codes "native " ++ c.args.name.now) c.from_residual.result is.1 c.in_err-say.ensures

pub returns : goal.returns
returns g c = said_then c.in_ok-say.ensures c.say_name.ensures
