use Rattle.std.proofs.Common.{◌≡◌, ◌+◌, ◌<◌, ◌^◌, drop}
use Rattle.gen_laws.specs.SwitchCode.{values_of}
use Rattle.gen_stmt.proofs.count.ranges_values.Given as goal

abbrev pub invariant-loop-i : goal.invariant-loop-i
invariant-loop-i l =
    (l.count + values_of (drop l.i l.ranges) ≡ values_of l.ranges) × (l.count < 2 ^ 28)
