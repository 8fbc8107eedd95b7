use Rattle.check_locals.proofs.ToldLaws.{tells}
use Rattle.check_switches.proofs.ends.end.Goals as goal

pub returns : goal.returns
returns c = rw c.told.ensures (tells _ _ _ c.expr.ensures.answer)
