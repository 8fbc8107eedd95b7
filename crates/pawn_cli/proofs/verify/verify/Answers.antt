use Rattle.std.proofs.Common.{codes, refl}
use Rattle.command_parts.specs.declared.status.Status.TheVariants as status
use Rattle.command_parts.proofs.FaultCountLaws.{only_calls, calls_stopped, calls_done, no_fault}
use Rattle.command_parts.proofs.ToldLaws.{told_stop}
use Rattle.pawn_cli.proofs.AnswerLaws.{reads_none, reads_one}
use Rattle.pawn_cli.proofs.verify.verify.Goals as goal

pub returns-in-Err-clause-answer : goal.returns-in-Err-clause-answer
returns-in-Err-clause-answer g c =
    reads_none _ c.args.amx.now c.in-Err.stop c.tell_stop.result c.in-Err.ensures.answer
    c.in-Err.ensures.calls.same
    (told_stop (only_calls c.in-Err.ensures.calls) refl c.tell_stop.ensures)

pub returns-in-Err-clause-calls : goal.returns-in-Err-clause-calls
returns-in-Err-clause-calls g c =
    calls_stopped c.in-Err.stop c.tell_stop.result
    (only_calls c.in-Err.ensures.calls) refl c.tell_stop.ensures

pub returns-clause-answer : goal.returns-clause-answer
returns-clause-answer g c =
    reads_one _ c.args.amx.now _ (codes "valid\n") c.say.result c.told.result c.in-Ok.ensures.answer
    c.in-Ok.ensures.calls.same refl
    (c.say.ensures, no_fault (only_calls c.in-Ok.ensures.calls)) c.told.ensures

pub returns-clause-calls : goal.returns-clause-calls
returns-clause-calls g c =
    calls_done status.Ok c.told.result c.say.result (λ e. absurd (cc e)) c.told.ensures
    (only_calls c.in-Ok.ensures.calls)
