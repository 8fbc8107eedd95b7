use Rattle.gen_expr.proofs.ConditionLaws.{single_not}
use Rattle.gen_expr.proofs.conditions.is_single.Goals as goal

pub returns-else-links-eq1 : goal.returns-else-links-eq1
returns-else-links-eq1 c = single_not c.args.links.now c.if-links-eq1.false
