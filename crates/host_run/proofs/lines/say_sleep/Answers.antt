use Rattle.std.proofs.Common.{rules, w32, FitsSigned}
use Rattle.std.proofs.lemmas.Int.{to_z-of_z}
use Rattle.std.proofs.lemmas.Result.{err_from_is_err_and}
use Rattle.pawn_outside.proofs.SaidLaws.{said_then, said_cut}
use Rattle.host_script.specs.Text.{event_text}
use Rattle.host_script.specs.declared.event.Event.TheVariants as event
use Rattle.host_run.proofs.lines.say_sleep.Goals as goal

pub returns-in_err-say : goal.returns-in_err-say
returns-in_err-say g c =
    let is = err_from_is_err_and c.from_residual.result c.from_residual.ensures.1 in
    said_cut (event_text (event.Slept c.args.value c.args.tag)) c.from_residual.result is.1 c.in_err-say.ensures

pub returns : goal.returns
returns g c =
    let value_fits : FitsSigned w32 c.args.value = search rules in
    let tag_fits : FitsSigned w32 c.args.tag = search rules in
    said_then c.in_ok-say.ensures
    (rw (to_z-of_z w32 c.args.value value_fits, to_z-of_z w32 c.args.tag tag_fits)
    at c.say_slept.ensures)
