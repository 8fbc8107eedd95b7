use Rattle.std.proofs.Common.{◌≡◌, ◌+◌, ◌-◌}
use Rattle.amx_ops.specs.Access as access
use Rattle.amx_step.proofs.registers.Core.order.Given as goal

abbrev pub invariant-loop-done : goal.invariant-loop-done
invariant-loop-done l =
    access.order_of (access.bytes_at l.self.state.cells (l.at + l.done) (l.count - l.done))
    (access.bytes_at l.self.state.cells (l.to + l.done) (l.count - l.done))
    ≡ access.order_of (access.bytes_at l.self.state.cells l.at l.count)
    (access.bytes_at l.self.state.cells l.to l.count)
