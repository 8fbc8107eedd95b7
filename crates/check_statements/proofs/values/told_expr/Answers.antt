use Rattle.check_locals.proofs.ToldLaws.{tells}
use Rattle.check_statements.proofs.MadeLaws.{judged_told}
use Rattle.check_statements.proofs.values.told_expr.Goals as goal

pub returns-clause-tells : goal.returns-clause-tells
returns-clause-tells c = rw c.told.ensures (tells _ _ _ c.expr.ensures.answer)

pub returns-clause-behind : goal.returns-clause-behind
returns-clause-behind c = rw c.told.ensures (judged_told c.expr.result _ c.expr.ensures.behind)
