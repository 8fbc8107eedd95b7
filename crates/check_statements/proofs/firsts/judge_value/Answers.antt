use Rattle.std.proofs.Common.{sym}
use Rattle.check_statements.proofs.firsts.judge_value.Goals as goal

pub returns-clause-tells : goal.returns-clause-tells
returns-clause-tells c = rw c.in_ok-it.ensures.tells (sym c.judged_of.ensures)
