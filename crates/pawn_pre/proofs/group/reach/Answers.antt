use Rattle.pawn_pre.proofs.GroupLaws.{bytewise_is_reach}
use Rattle.pawn_pre.proofs.group.reach.Goals as goal

pub returns-clause-taken : goal.returns-clause-taken
returns-clause-taken c =
    rw (bytewise_is_reach c.args.control c.args.end c.args.bytes.now) at
    c.reach_bytewise.ensures.taken
