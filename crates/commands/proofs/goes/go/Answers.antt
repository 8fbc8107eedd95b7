use Rattle.std.proofs.Common.{refl}
use Rattle.command_parts.proofs.FaultCountLaws.{only_calls, calls_then, calls_stopped}
use Rattle.command_parts.proofs.ToldLaws.{told_stop, unchanged}
use Rattle.commands.proofs.GoFileLaws.{goes_nowhere, goes_good}
use Rattle.commands.proofs.goes.go.Goals as goal

pub returns-in-Ok-clause-answer : goal.returns-in-Ok-clause-answer
returns-in-Ok-clause-answer g c =
    goes_good c.args.words.now _ _ _ _ c.in-Ok.prepared c.make.result c.in-Ok.ensures.answer
    c.in-Ok.ensures.ranges c.in-Ok.ensures.calls.same
    (unchanged c.args.out.now (only_calls c.in-Ok.ensures.calls)) c.make.ensures.answer

pub returns-in-Ok-clause-calls : goal.returns-in-Ok-clause-calls
returns-in-Ok-clause-calls g c = calls_then (only_calls c.in-Ok.ensures.calls) c.make.ensures.calls

pub returns-in-Err-clause-answer : goal.returns-in-Err-clause-answer
returns-in-Err-clause-answer g c =
    goes_nowhere c.args.words.now _ _ c.in-Err.stop c.tell_stop.result c.in-Err.ensures.answer
    c.in-Err.ensures.calls.same
    (told_stop (only_calls c.in-Err.ensures.calls) refl c.tell_stop.ensures)

pub returns-in-Err-clause-calls : goal.returns-in-Err-clause-calls
returns-in-Err-clause-calls g c =
    calls_stopped c.in-Err.stop c.tell_stop.result
    (only_calls c.in-Err.ensures.calls) refl c.tell_stop.ensures
