use Rattle.check_source.proofs.TableLaws.{put_is}
use Rattle.check_source.proofs.tables.put.Goals as goal

pub returns-clause-ok : goal.returns-clause-ok
returns-clause-ok c =
    put_is c.args.table.now.entries _ c.args.name c.args.number c.in-Ok.ensures.entries
