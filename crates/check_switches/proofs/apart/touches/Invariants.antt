use Rattle.std.proofs.Common.{◌≡◌, ◌-◌, drop}
use Rattle.check_switches.specs.Neighbours.{neighbours_meet}
use Rattle.check_switches.proofs.apart.touches.Given as goal

abbrev pub invariant-loop-i : goal.invariant-loop-i
invariant-loop-i l = neighbours_meet (drop (l.i - 1) l.ranges) ≡ neighbours_meet l.ranges
