use Rattle.std.proofs.Common.{◌≡◌, length}
use Rattle.pawn_pre.specs.ConditionMachine.{settle}
use Rattle.pawn_pre.proofs.evaluate.settle.Given as goal

abbrev pub invariant-loop-wait : goal.invariant-loop-wait
invariant-loop-wait l =
    settle l.most l.waits.items l.held ≡ settle l.fn.most l.fn.waits.items l.fn.operand

abbrev pub decreases-loop-wait : goal.decreases-loop-wait
decreases-loop-wait l = length l.waits.items
