use Rattle.std.proofs.Common.{refl, ap}
use Rattle.amx_text.specs.Listing.{listing}
use Rattle.command_parts.specs.declared.status.Status.TheVariants as status
use Rattle.command_parts.proofs.FaultCountLaws.{only_calls, calls_stopped, calls_done, no_fault}
use Rattle.command_parts.proofs.ToldLaws.{told_stop}
use Rattle.pawn_cli.proofs.AnswerLaws.{reads_none, reads_one}
use Rattle.pawn_cli.proofs.list.list.Goals as goal

pub returns-in-Err-clause-answer : goal.returns-in-Err-clause-answer
returns-in-Err-clause-answer g c =
    reads_none listing c.args.amx.now c.in-Err.stop c.tell_stop.result c.in-Err.ensures.answer
    c.in-Err.ensures.calls.same
    (told_stop (only_calls c.in-Err.ensures.calls) refl c.tell_stop.ensures)

pub returns-in-Err-clause-calls : goal.returns-in-Err-clause-calls
returns-in-Err-clause-calls g c =
    calls_stopped c.in-Err.stop c.tell_stop.result
    (only_calls c.in-Err.ensures.calls) refl c.tell_stop.ensures

pub returns-in-Ok-clause-answer : goal.returns-in-Ok-clause-answer
returns-in-Ok-clause-answer g c =
    reads_one listing c.args.amx.now c.in-Ok.verified
    (listing c.amx.result.now) c.say_listing.result c.told.result c.in-Ok.ensures.answer
    c.in-Ok.ensures.calls.same (ap listing c.amx.ensures.value)
    (c.say_listing.ensures, no_fault (only_calls c.in-Ok.ensures.calls)) c.told.ensures

pub returns-in-Ok-clause-calls : goal.returns-in-Ok-clause-calls
returns-in-Ok-clause-calls g c =
    calls_done status.Ok c.told.result c.say_listing.result (λ e. absurd (cc e)) c.told.ensures
    (only_calls c.in-Ok.ensures.calls)
