use Rattle.std.proofs.Common.{sym}
use Rattle.host_run.proofs.NameLaws.{longer_is_none}
use Rattle.host_run.proofs.bound.entry_among.Goals as goal

pub returns-in-None : goal.returns-in-None
returns-in-None c =
    sym (longer_is_none c.args.name.now c.args.names.now c.args.most c.in-None.ensures c.requires)
