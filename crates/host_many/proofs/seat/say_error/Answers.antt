use Rattle.std.proofs.Common.{rules, w32, FitsSigned}
use Rattle.std.proofs.lemmas.Int.{to_z-of_z}
use Rattle.std.proofs.lemmas.Result.{err_from_is_err_and}
use Rattle.pawn_outside.proofs.SaidLaws.{said_then, said_cut}
use Rattle.host_script.specs.Text.{end_text}
use Rattle.host_script.specs.declared.event.End.TheVariants as end
use Rattle.host_many.proofs.seat.say_error.Goals as goal

pub returns-in_err-say : goal.returns-in_err-say
returns-in_err-say g c =
    let is = err_from_is_err_and c.from_residual.result c.from_residual.ensures.1 in
    said_cut (end_text (end.Error c.args.code)) c.from_residual.result is.1 c.in_err-say.ensures

pub returns : goal.returns
returns g c =
    let fits : FitsSigned w32 c.args.code = search rules in
    said_then c.in_ok-say.ensures (rw (to_z-of_z w32 c.args.code fits) at c.say_end.ensures)
