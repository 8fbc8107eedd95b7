use Rattle.std.proofs.Common.{◌≡◌, ◌-◌, ◌++◌}
use Rattle.amx_format.specs.Layout.{zeros}
use Rattle.amx_format.proofs.writer.put_zeros.Given as goal

abbrev pub invariant-loop : goal.invariant-loop
invariant-loop l = l.out ++ zeros (l.count - l.counter) ≡ l.initial.out ++ zeros l.count
