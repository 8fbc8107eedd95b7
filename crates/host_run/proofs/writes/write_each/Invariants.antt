use Rattle.std.proofs.Common.{◌≡◌, take}
use Rattle.host_run.specs.Writes.{written}
use Rattle.host_run.proofs.writes.write_each.Given as goal

abbrev pub invariant-loop-index : goal.invariant-loop-index
invariant-loop-index l = l.machine ≡ written (take l.index l.writes) l.initial.machine
