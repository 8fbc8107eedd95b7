use Rattle.std.proofs.Common.{Err, refl, ap}
use Rattle.command_parts.proofs.FaultCountLaws.{calls_nothing, stop_no_fault}
use Rattle.command_parts.proofs.ToldLaws.{told_other_stop}
use Rattle.commands.proofs.SampleLaws.{samples_good, samples_nothing}
use Rattle.commands.proofs.samples.sample.Goals as goal

pub returns-in-Ok-clause-answer : goal.returns-in-Ok-clause-answer
returns-in-Ok-clause-answer g c =
    samples_good c.args.words.now _ _ _ c.in-Ok.compiled c.make.result c.as_str.ensures
    c.in-Ok.ensures.answer c.make.ensures.answer

pub returns-in-Err-clause-answer : goal.returns-in-Err-clause-answer
returns-in-Err-clause-answer g c =
    samples_nothing c.args.words.now _ _ c.in-Err.stop c.tell_stop.result c.in-Err.ensures.answer
    refl
    (told_other_stop (λ e. c.in-Err.ensures.fault (ap Err e)) refl c.tell_stop.ensures)

pub returns-in-Err-clause-calls : goal.returns-in-Err-clause-calls
returns-in-Err-clause-calls g c =
    calls_nothing c.args.files.now
    (stop_no_fault c.in-Err.stop c.tell_stop.result
    (λ e. c.in-Err.ensures.fault (ap Err e)) c.tell_stop.ensures)
