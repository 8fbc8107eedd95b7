use Rattle.std.proofs.Common.{sym}
use Rattle.names_sight.proofs.OperatorLaws.{many_tags}
use Rattle.names_sight.proofs.operators.Defined.add_operator.Goals as goal

pub returns-in-len3-up-clause-added : goal.returns-in-len3-up-clause-added
returns-in-len3-up-clause-added c =
    sym (many_tags c.args.op c.args.right c.args.self.now.operators c.args.tags.now
    c.args.params.now c.in-len3-up.len_at_least)
