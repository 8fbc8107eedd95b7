use Rattle.std.proofs.Common.{sym}
use Rattle.check_source.proofs.KeyLaws.{many_tags}
use Rattle.check_source.proofs.operators.signature_with.Goals as goal

pub returns-in-len3-up : goal.returns-in-len3-up
returns-in-len3-up c =
    sym (many_tags c.args.op c.args.right c.args.tags.now c.args.params.now
    c.in-len3-up.len_at_least)
