use Rattle.std.proofs.Common.{sym}
use Rattle.check_statements.proofs.PointLaws.{beyond_none}
use Rattle.check_statements.proofs.values.maybe_part.Goals as goal

pub returns-in-None-clause-behind : goal.returns-in-None-clause-behind
returns-in-None-clause-behind c = rw c.in-None.is (beyond_none _)

pub returns-in_ok-it-in-Some-clause-tells : goal.returns-in_ok-it-in-Some-clause-tells
returns-in_ok-it-in-Some-clause-tells c =
    rw (c.in-Some.is, c.in_ok-it-in-Some.ensures.tells) (sym c.there.ensures)
