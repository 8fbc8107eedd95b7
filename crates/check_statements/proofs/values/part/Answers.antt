use Rattle.std.proofs.Common.{refl, arith}
use Rattle.check_statements.proofs.PointLaws.{point_eq}
use Rattle.check_statements.proofs.values.part.Goals as goal

pub returns-clause-behind : goal.returns-clause-behind
returns-clause-behind c = point_eq _ _ refl c.in_ok-it.ensures.behind (omega arith)
