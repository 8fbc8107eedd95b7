use Rattle.check_locals.proofs.ToldLaws.{tells}
use Rattle.check_locals.proofs.declarations.told_constant.Goals as goal

pub returns : goal.returns
returns c = rw c.told.ensures (tells _ _ _ c.constant_value.ensures)
