use Rattle.std.proofs.Common.{◌≡◌, [], drop}
use Rattle.pawn_pre.specs.ConditionMachine.{from, operand}
use Rattle.pawn_pre.proofs.evaluate.evaluate.Given as goal

abbrev pub invariant-loop-part : goal.invariant-loop-part
invariant-loop-part l =
    from l.held (drop l.part-index l.parts) l.waits.items ≡ operand l.fn.parts []
