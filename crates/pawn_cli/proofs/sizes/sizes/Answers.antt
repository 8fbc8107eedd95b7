use Rattle.std.proofs.Common.{inl, refl}
use Rattle.command_parts.proofs.FaultCountLaws.{only_calls, calls_stopped, calls_other, no_fault}
use Rattle.command_parts.proofs.ToldLaws.{told_stop}
use Rattle.pawn_cli.proofs.SizesLaws.{read_told}
use Rattle.pawn_cli.proofs.sizes.sizes.Goals as goal

pub returns-in-Ok-clause-answer : goal.returns-in-Ok-clause-answer
returns-in-Ok-clause-answer g c =
    read_told c.in-Ok.ensures.answer c.as_slice.ensures c.in-Ok.ensures.calls.same
    (no_fault (only_calls c.in-Ok.ensures.calls)) c.tell_bytes.ensures.answer

pub returns-in-Ok-clause-calls : goal.returns-in-Ok-clause-calls
returns-in-Ok-clause-calls g c =
    calls_other c.tell_bytes.ensures.fault (only_calls c.in-Ok.ensures.calls)

pub returns-in-Err-clause-answer : goal.returns-in-Err-clause-answer
returns-in-Err-clause-answer g c =
    inl (record {
      stop = c.in-Err.stop;
      comes = inl c.in-Err.ensures.answer;
      kept = c.in-Err.ensures.calls.same;
      tells = told_stop (only_calls c.in-Err.ensures.calls) refl c.tell_stop.ensures;
    })

pub returns-in-Err-clause-calls : goal.returns-in-Err-clause-calls
returns-in-Err-clause-calls g c =
    calls_stopped c.in-Err.stop c.tell_stop.result
    (only_calls c.in-Err.ensures.calls) refl c.tell_stop.ensures
