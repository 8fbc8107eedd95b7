use Rattle.std.proofs.Common.{refl}
use Rattle.commands.specs.Finishes.{kept, unkept}
use Rattle.command_parts.proofs.FaultCountLaws.{calls_stopped, calls_other}
use Rattle.command_parts.proofs.ToldLaws.{told_stop, unchanged}
use Rattle.commands.proofs.ready_segment.keep.Goals as goal

pub returns-in-Ok-clause-answer : goal.returns-in-Ok-clause-answer
returns-in-Ok-clause-answer g c =
    kept c.in-Ok.ensures.answer (unchanged c.args.out.now c.in-Ok.ensures.calls)

pub returns-in-Ok-clause-calls : goal.returns-in-Ok-clause-calls
returns-in-Ok-clause-calls g c = calls_other (λ e. absurd (cc e)) c.in-Ok.ensures.calls

pub returns-in-Err-clause-answer : goal.returns-in-Err-clause-answer
returns-in-Err-clause-answer g c =
    unkept c.in-Err.stop c.tell_stop.result c.in-Err.ensures.answer
    (told_stop c.in-Err.ensures.calls refl c.tell_stop.ensures)

pub returns-in-Err-clause-calls : goal.returns-in-Err-clause-calls
returns-in-Err-clause-calls g c =
    calls_stopped c.in-Err.stop c.tell_stop.result c.in-Err.ensures.calls refl c.tell_stop.ensures
