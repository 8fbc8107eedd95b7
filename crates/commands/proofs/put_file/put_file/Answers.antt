use Rattle.std.proofs.Common.{inl, inr, refl}
use Rattle.command_parts.specs.declared.status.Status.TheVariants as status
use Rattle.command_parts.proofs.FaultCountLaws.{calls_stopped, calls_done, no_fault}
use Rattle.command_parts.proofs.ToldLaws.{told_stop}
use Rattle.commands.proofs.put_file.put_file.Goals as goal

pub returns-in-Ok-clause-answer : goal.returns-in-Ok-clause-answer
returns-in-Ok-clause-answer g c =
    inr (record {
      kept = c.in-Ok.ensures.answer;
      told = c.say_put.result;
      written = (c.say_put.ensures, no_fault c.in-Ok.ensures.calls);
      is = c.told.ensures;
    })

pub returns-in-Ok-clause-calls : goal.returns-in-Ok-clause-calls
returns-in-Ok-clause-calls g c =
    calls_done status.Ok c.told.result c.say_put.result
    (λ e. absurd (cc e)) c.told.ensures c.in-Ok.ensures.calls

pub returns-in-Err-clause-answer : goal.returns-in-Err-clause-answer
returns-in-Err-clause-answer g c =
    inl (record {
      stop = c.in-Err.stop;
      comes = c.in-Err.ensures.answer;
      tells = told_stop c.in-Err.ensures.calls refl c.tell_stop.ensures;
    })

pub returns-in-Err-clause-calls : goal.returns-in-Err-clause-calls
returns-in-Err-clause-calls g c =
    calls_stopped c.in-Err.stop c.tell_stop.result c.in-Err.ensures.calls refl c.tell_stop.ensures
