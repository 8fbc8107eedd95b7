use Rattle.std.proofs.Common.{◌≡◌, ◌+◌, ◌-◌, ◌*◌, Some, length, drop}
use Rattle.amx_ops.specs.Trace.{pushed_all}
use Rattle.amx_step.proofs.registers.Core.put_all.Given as goal

abbrev pub invariant-loop-done : goal.invariant-loop-done
invariant-loop-done l = record {
  pushed : pushed_all (drop (length l.values - l.done) l.values) l.initial.self.state
      ≡ Some l.self.state;
  stk : l.self.state.stk + 4 * l.done ≡ l.initial.self.state.stk;
  hea : l.self.state.hea ≡ l.initial.self.state.hea;
  file : l.self.amx ≡ l.initial.self.amx;
}
