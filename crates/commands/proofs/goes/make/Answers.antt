use Rattle.std.proofs.Common.{refl}
use Rattle.pawn_outside.specs.Said.{Said}
use Rattle.command_parts.proofs.FaultCountLaws.{calls_stopped, calls_other, no_fault}
use Rattle.command_parts.proofs.ToldLaws.{told_stop}
use Rattle.commands.specs.Goes.{behind}
use Rattle.commands.specs.Lines.{warning_lines}
use Rattle.commands.proofs.GoFileLaws.{makes_none, makes_put}
use Rattle.commands.proofs.SteadyLaws.{file_steadily}
use Rattle.commands.proofs.goes.make.Goals as goal

pub returns-in-Ok-clause-answer : goal.returns-in-Ok-clause-answer
returns-in-Ok-clause-answer g c =
    makes_put c.args.words.now c.args.prepared.now _ _ _ _ c.tell_and_run.result c.as_str.ensures
    c.as_slice.ensures c.in-Ok.ensures.answer
    (λ amx valid. file_steadily
    (behind (warning_lines c.args.prepared.now.compiled.warnings)
    (Said g.S.Sink.taken g.S.Sink.faults g.S.Sink.has_room)) (no_fault c.in-Ok.ensures.calls)
    (c.tell_and_run.ensures.answer amx valid))

pub returns-in-Ok-clause-calls : goal.returns-in-Ok-clause-calls
returns-in-Ok-clause-calls g c = calls_other c.tell_and_run.ensures.fault c.in-Ok.ensures.calls

pub returns-in-Err-clause-answer : goal.returns-in-Err-clause-answer
returns-in-Err-clause-answer g c =
    makes_none c.args.words.now c.args.prepared.now _ _ _ c.in-Err.stop c.tell_stop.result
    c.as_str.ensures c.in-Err.ensures.answer
    (told_stop c.in-Err.ensures.calls refl c.tell_stop.ensures)

pub returns-in-Err-clause-calls : goal.returns-in-Err-clause-calls
returns-in-Err-clause-calls g c =
    calls_stopped c.in-Err.stop c.tell_stop.result c.in-Err.ensures.calls refl c.tell_stop.ensures
