use Rattle.std.proofs.Common.{◌≡◌, ◌-◌}
use Rattle.amx_step.specs.Runs.{runs}
use Rattle.amx_step.proofs.runs.run.Given as goal

abbrev pub invariant-loop-done : goal.invariant-loop-done
invariant-loop-done l = runs (l.count - l.done) l.done l.machine ≡ runs l.count 0 l.initial.machine
