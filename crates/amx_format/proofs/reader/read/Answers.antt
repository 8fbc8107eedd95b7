use Rattle.amx_format.proofs.LimitLaws.{limits_of}
use Rattle.amx_format.proofs.reader.read.Goals as goal

pub returns-clause-limits : goal.returns-clause-limits
returns-clause-limits c = limits_of c.args.bytes.now c.read_file.result c.read_file.ensures
