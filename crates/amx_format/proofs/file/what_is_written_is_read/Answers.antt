use Rattle.amx_format.proofs.Determines.{read_back}
use Rattle.amx_format.proofs.file.what_is_written_is_read.Goals as goal

pub returns : goal.returns
returns c = read_back
