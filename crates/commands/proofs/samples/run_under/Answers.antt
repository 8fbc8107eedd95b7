use Rattle.std.proofs.Common.{◌∙◌, ap, length}
use Rattle.amx_ops.specs.declared.amx.Amx.{Amx}
use Rattle.command_parts.specs.declared.options.TheConstants.{DEFAULT_STEPS}
use Rattle.commands.specs.Played.{trace_of}
use Rattle.commands.proofs.FileReadyLaws.{ready_itself}
use Rattle.commands.proofs.SampleLaws.{not_ready, runs_ready}
use Rattle.commands.proofs.samples.run_under.Goals as goal

pub run_ready-steps-requires-clause-ready : goal.run_ready-steps-requires-clause-ready
run_ready-steps-requires-clause-ready g c =
    ready_itself c.args.file c.args.script.now c.in-Ok.ready c.in-Ok.ensures

pub returns-in-Ok : goal.returns-in-Ok
returns-in-Ok g c =
    runs_ready c.args.file c.args.script.now c.in-Ok.ready c.len-cells.result c.tell_counted.result
    c.requires.is_plain c.in-Ok.ensures
    (c.len-cells.ensures ∙ ap (λ (a : Amx). length a.code) c.amx.ensures.value)
    (c.tell_counted.ensures
    (trace_of c.in-Ok.ready.machine.amx c.args.script.now DEFAULT_STEPS 0) c.args.out.now
    c.run_ready-steps.ensures)

pub returns-in-Err : goal.returns-in-Err
returns-in-Err g c =
    not_ready c.args.file c.args.script.now c.in-Err.stop c.tell_stop.result
    c.requires.is_plain c.in-Err.ensures c.tell_stop.ensures
