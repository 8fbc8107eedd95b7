use Rattle.check_statements.proofs.PointLaws.{beyond_none}
use Rattle.check_statements.proofs.values.value_or_zero.Goals as goal

pub returns-in_ok-zero_used-in-None-clause-behind
    : goal.returns-in_ok-zero_used-in-None-clause-behind
returns-in_ok-zero_used-in-None-clause-behind c = rw c.in-None.is (beyond_none _)
