use Rattle.std.proofs.Common.{◌≡◌, ◌-◌}
use Rattle.amx_ops.specs.Effects as effects
use Rattle.amx_step.proofs.cases.paired.Given as goal

abbrev pub invariant-loop-done : goal.invariant-loop-done
invariant-loop-done l =
    effects.paired l.rest l.value (l.count - l.done) l.other
    ≡ effects.paired l.pairs l.value l.count l.other
