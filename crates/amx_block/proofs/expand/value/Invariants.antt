use Rattle.std.proofs.Common.{◌≡◌, ◌-◌}
use Rattle.amx_block.specs.Packed.{groups}
use Rattle.amx_block.proofs.expand.value.Given as goal

abbrev pub invariant-loop-at : goal.invariant-loop-at
invariant-loop-at l = l.sum.0 ≡ groups l.cells l.start (l.at - l.start)
