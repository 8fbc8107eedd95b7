use Rattle.std.proofs.Common.{◌≡◌, take, map}
use Rattle.check_calls.specs.Empty.{nothing_for}
use Rattle.check_calls.proofs.filling.empty_slots.Given as goal

abbrev pub invariant-loop-param : goal.invariant-loop-param
invariant-loop-param l = l.slots.items ≡ map nothing_for (take l._param-index l.params)
