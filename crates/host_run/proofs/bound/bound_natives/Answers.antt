use Rattle.std.proofs.Common.{ap, ◌∙◌}
use Rattle.amx_ops.specs.declared.amx.Record.{Record}
use Rattle.host_run.specs.Bound.{names_of}
use Rattle.host_run.proofs.NameLaws.{bound_next}
use Rattle.host_run.proofs.bound.bound_natives.Goals as goal

pub loop-native-preserved : goal.loop-native-preserved
loop-native-preserved c =
    bound_next c.args.script.now c.args.natives.now c.loop-native.native-index c.native-item.result
    c.in_ok-names.names c.loop-native.bound
    c.push.new.self c.native-item.result.name c.in_ok-bound_native.field-0
    c.in_ok-push.ensures.ok c.in_ok-bound_native.ensures
    (ap (λ (it : Record). it.name) c.native-item.is)
    (c.in_ok-names.ensures ∙ ap names_of c.as_slice.ensures)
    c.loop-native.invariant c.loop-native-test.true
