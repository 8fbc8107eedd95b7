use Rattle.std.proofs.Common.{◌≡◌}
use Rattle.check_nodes.specs.Scopes.{without}
use Rattle.check_nodes.proofs.scopes.Scopes.forget.Given as goal

abbrev pub invariant-loop-i : goal.invariant-loop-i
invariant-loop-i l = l.self ≡ without l._i l.initial.self
