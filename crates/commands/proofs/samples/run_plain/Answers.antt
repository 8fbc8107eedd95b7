use Rattle.commands.proofs.SampleLaws.{no_script}
use Rattle.commands.proofs.samples.run_plain.Goals as goal

pub returns-in-Err : goal.returns-in-Err
returns-in-Err g c =
    no_script c.args.file c.in-Err.stop c.tell_stop.result c.in-Err.ensures.answer
    c.tell_stop.ensures
