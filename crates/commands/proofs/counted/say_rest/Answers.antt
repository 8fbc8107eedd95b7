use Rattle.std.proofs.lemmas.Result.{err_from_is_err_and}
use Rattle.pawn_outside.proofs.SaidLaws.{said_cut, said_then}
use Rattle.commands.specs.Used.{used_text}
use Rattle.commands.proofs.counted.say_rest.Goals as goal

pub returns-in_err-say_left : goal.returns-in_err-say_left
returns-in_err-say_left g c =
    let is = err_from_is_err_and c.from_residual.result c.from_residual.ensures.1 in
    said_cut (used_text c.args.count c.args.steps) c.from_residual.result is.1 c.in_err-say_left.ensures

pub returns : goal.returns
returns g c = said_then c.in_ok-say_left.ensures c.say_used.ensures
