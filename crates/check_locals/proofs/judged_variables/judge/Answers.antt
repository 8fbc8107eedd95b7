use Rattle.check_locals.proofs.ToldLaws.{tells}
use Rattle.check_locals.proofs.judged_variables.judge.Goals as goal

pub returns : goal.returns
returns c = rw c.told.ensures (tells _ _ _ c.judge_var.ensures)
