use Rattle.pawn_pre.specs.ConditionMachine.{value_of}
use Rattle.pawn_pre.proofs.ForCallers.{value_of_is}
use Rattle.pawn_pre.proofs.work.Work.condition.Goals as goal

pub returns : goal.returns
returns c = c.condition.ensures value_of value_of_is
