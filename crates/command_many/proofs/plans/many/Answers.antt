use Rattle.std.proofs.Common.{refl}
use Rattle.command_parts.proofs.FaultCountLaws.{only_calls, calls_other, calls_stopped, no_fault}
use Rattle.command_parts.proofs.ToldLaws.{told_stop}
use Rattle.command_many.proofs.ManyLaws.{events_no_fault, events_steadily, ready_machines}
use Rattle.command_many.proofs.ManyLaws.{serves_ready, serves_stopped}
use Rattle.command_many.proofs.plans.many.Goals as goal

pub serve-requires : goal.serve-requires
serve-requires g c = ready_machines c.in-Ok.ensures.answer

pub returns-in-Ok-clause-answer : goal.returns-in-Ok-clause-answer
returns-in-Ok-clause-answer g c =
    serves_ready c.in-Ok.ready c.in-Ok.ensures.answer c.in-Ok.ensures.calls.same
    (events_steadily (no_fault (only_calls c.in-Ok.ensures.calls)) c.serve.ensures)

pub returns-in-Ok-clause-calls : goal.returns-in-Ok-clause-calls
returns-in-Ok-clause-calls g c =
    calls_other (events_no_fault c.serve.ensures) (only_calls c.in-Ok.ensures.calls)

pub returns-in-Err-clause-answer : goal.returns-in-Err-clause-answer
returns-in-Err-clause-answer g c =
    serves_stopped c.in-Err.stop c.in-Err.ensures.answer c.in-Err.ensures.calls.same
    (told_stop (only_calls c.in-Err.ensures.calls) refl c.tell_stop.ensures)

pub returns-in-Err-clause-calls : goal.returns-in-Err-clause-calls
returns-in-Err-clause-calls g c =
    calls_stopped c.in-Err.stop c.tell_stop.result (only_calls c.in-Err.ensures.calls) refl
    c.tell_stop.ensures
