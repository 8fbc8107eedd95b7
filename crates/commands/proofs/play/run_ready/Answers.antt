use Rattle.std.proofs.Common.{◌∙◌, rules, w32, FitsSigned, sym, ap}
use Rattle.std.proofs.lemmas.Int.{to_z-of_z}
use Rattle.amx_ops.specs.declared.amx.Amx.{Amx}
use Rattle.host_run.specs.Bound.{bound_of}
use Rattle.commands.proofs.CountedLaws.{fails_at_once, runs_on}
use Rattle.commands.proofs.PlayLaws.{awake, idle}
use Rattle.commands.proofs.play.run_ready.Goals as goal

pub start-requires : goal.start-requires
start-requires g c = idle c.args.ready.machine c.requires.ready.serves.machine

pub run_segments-ran-requires-clause-awake : goal.run_segments-ran-requires-clause-awake
run_segments-ran-requires-clause-awake g c = awake c.start.new.self c.in-Ok.ensures.2

pub run_segments-ran-requires-clause-bound : goal.run_segments-ran-requires-clause-bound
run_segments-ran-requires-clause-bound g c =
    c.requires.ready.serves.bound ∙ ap (λ (a : Amx). bound_of c.args.script.now a.natives)
    (sym c.in-Ok.ensures.1)

pub returns-in-Ok : goal.returns-in-Ok
returns-in-Ok g c =
    let is = c.requires.ready in
    runs_on c.args.ready.machine is.serves.machine is.main c.args.script.now c.args.steps
    c.args.sleeps c.start.new.self c.run_segments-ran.result.steps c.run_segments-ran.result.end _
    c.in-Ok.ensures.0 c.in-Ok.ensures.1 c.run_segments-ran.ensures.text
    c.run_segments-ran.ensures.answer c.run_segments-ran.ensures.leaves

pub returns : goal.returns
returns g c =
    let is = c.requires.ready in
    let fits : FitsSigned w32 c.code.result = search rules in
    fails_at_once c.args.ready.machine is.serves.machine is.main c.args.script.now c.args.steps
    c.args.sleeps c.in-Err.fault c.start.new.self c.code.result c.say_error.result c.in-Err.ensures
    c.code.ensures
    (rw (to_z-of_z w32 c.code.result fits) at c.say_error.ensures.is)
    (rw (to_z-of_z w32 c.code.result fits) at c.say_error.ensures.line)
