use Rattle.commands.specs.Played.{trace_of}
use Rattle.commands.proofs.play.play.Goals as goal

pub returns : goal.returns
returns g c =
    c.tell_run.ensures.tells
    (trace_of c.args.ready.machine.amx c.args.script.now c.args.words.now.steps
    c.args.words.now.sleeps) c.args.out.now c.run_ready-steps.ensures
