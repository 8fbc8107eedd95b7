use Rattle.std.proofs.Common.{length}
use Rattle.host_plan.proofs.BreakLaws.{HasRead}
use Rattle.host_plan.proofs.reading.read_plan.Given as goal

abbrev pub invariant-loop-line : goal.invariant-loop-line
invariant-loop-line l = HasRead l.text l.plan l.rest

abbrev pub decreases-loop-line : goal.decreases-loop-line
decreases-loop-line l = length l.rest
