use Rattle.std.proofs.Common.{inl, inr, refl}
use Rattle.command_parts.specs.declared.status.Status.TheVariants as status
use Rattle.command_parts.proofs.FaultCountLaws.{calls_done, calls_stopped, no_fault, only_calls}
use Rattle.command_parts.proofs.ToldLaws.{told_stop}
use Rattle.commands.proofs.usages.usage.Goals as goal

pub returns-in-Ok-clause-answer : goal.returns-in-Ok-clause-answer
returns-in-Ok-clause-answer g c =
    inr (record {
      it = c.in-Ok.used;
      is = c.in-Ok.ensures.answer;
      kept = c.in-Ok.ensures.calls.same;
      told = c.say_used.result;
      written = (c.say_used.ensures, no_fault (only_calls c.in-Ok.ensures.calls));
      ends = c.told.ensures;
    })

pub returns-in-Ok-clause-calls : goal.returns-in-Ok-clause-calls
returns-in-Ok-clause-calls g c =
    calls_done status.Ok c.told.result c.say_used.result
    (λ e. absurd (cc e)) c.told.ensures (only_calls c.in-Ok.ensures.calls)

pub returns-in-Err-clause-answer : goal.returns-in-Err-clause-answer
returns-in-Err-clause-answer g c =
    inl (record {
      stop = c.in-Err.stop;
      comes = c.in-Err.ensures.answer;
      kept = c.in-Err.ensures.calls.same;
      tells = told_stop (only_calls c.in-Err.ensures.calls) refl c.tell_stop.ensures;
    })

pub returns-in-Err-clause-calls : goal.returns-in-Err-clause-calls
returns-in-Err-clause-calls g c =
    calls_stopped c.in-Err.stop c.tell_stop.result
    (only_calls c.in-Err.ensures.calls) refl c.tell_stop.ensures
