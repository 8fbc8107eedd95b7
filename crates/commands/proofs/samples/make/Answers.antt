use Rattle.std.proofs.Common.{refl}
use Rattle.command_parts.proofs.FaultCountLaws.{calls_other, calls_stopped, no_fault}
use Rattle.command_parts.proofs.ToldLaws.{told_stop}
use Rattle.commands.proofs.SampleLaws.{sample_put, sample_unput}
use Rattle.commands.proofs.SteadyLaws.{sample_steadily}
use Rattle.commands.proofs.samples.make.Goals as goal

pub returns-in-Ok-clause-answer : goal.returns-in-Ok-clause-answer
returns-in-Ok-clause-answer g c =
    sample_put c.args.amx.now c.args.compiled.now.bytes c.as_slice-bytes.result.now _ _
    c.run_bytes.result c.as_slice-bytes.ensures c.in-Ok.ensures.answer
    (λ amx valid. sample_steadily _ (no_fault c.in-Ok.ensures.calls)
    (c.run_bytes.ensures.answer amx valid))

pub returns-in-Ok-clause-calls : goal.returns-in-Ok-clause-calls
returns-in-Ok-clause-calls g c = calls_other c.run_bytes.ensures.fault c.in-Ok.ensures.calls

pub returns-in-Err-clause-answer : goal.returns-in-Err-clause-answer
returns-in-Err-clause-answer g c =
    sample_unput c.args.amx.now c.args.compiled.now.bytes _ _ c.in-Err.stop c.tell_stop.result
    c.in-Err.ensures.answer (told_stop c.in-Err.ensures.calls refl c.tell_stop.ensures)

pub returns-in-Err-clause-calls : goal.returns-in-Err-clause-calls
returns-in-Err-clause-calls g c =
    calls_stopped c.in-Err.stop c.tell_stop.result c.in-Err.ensures.calls refl c.tell_stop.ensures
