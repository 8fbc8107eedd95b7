use Rattle.std.proofs.Common.{refl}
use Rattle.check_statements.proofs.MadeLaws.{made_as}
use Rattle.check_statements.proofs.simple.return_sent.Goals as goal

pub returns : goal.returns
returns c =
    made_as _ _ _ c.return_rule.ensures
    (rw (c.in_ok-it.ensures c.args.x.at, c.in_ok-made.ensures.literals, c.in_ok-made.ensures.warned)
    refl)
