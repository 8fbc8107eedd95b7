use Rattle.std.proofs.Common.{refl}
use Rattle.command_parts.proofs.FaultCountLaws.{only_calls, calls_then, calls_stopped}
use Rattle.command_parts.proofs.ToldLaws.{told_stop, unchanged}
use Rattle.commands.proofs.ResumeLaws.{stops_unread, resumes_good}
use Rattle.commands.proofs.resumes.resume.Goals as goal

pub resume_program-requires-clause-file : goal.resume_program-requires-clause-file
resume_program-requires-clause-file g c = c.in-Ok.ensures.answer.bytes

pub returns-in-Ok-clause-answer : goal.returns-in-Ok-clause-answer
returns-in-Ok-clause-answer g c =
    resumes_good c.args.words.now _ _ _ _ _ _ c.in-Ok.read.program c.resume_program.result
    c.as_str.ensures c.as_str-2.ensures c.in-Ok.ensures.answer.good
    c.in-Ok.ensures.calls.same (unchanged c.args.out.now (only_calls c.in-Ok.ensures.calls))
    c.resume_program.ensures.answer

pub returns-in-Ok-clause-calls : goal.returns-in-Ok-clause-calls
returns-in-Ok-clause-calls g c =
    calls_then (only_calls c.in-Ok.ensures.calls) c.resume_program.ensures.calls

pub returns-in-Err-clause-answer : goal.returns-in-Err-clause-answer
returns-in-Err-clause-answer g c =
    stops_unread c.args.words.now _ _ _ _ c.in-Err.stop c.tell_stop.result c.as_str.ensures
    c.as_str-2.ensures c.in-Err.ensures.answer
    c.in-Err.ensures.calls.same
    (told_stop (only_calls c.in-Err.ensures.calls) refl c.tell_stop.ensures)

pub returns-in-Err-clause-calls : goal.returns-in-Err-clause-calls
returns-in-Err-clause-calls g c =
    calls_stopped c.in-Err.stop c.tell_stop.result
    (only_calls c.in-Err.ensures.calls) refl c.tell_stop.ensures
