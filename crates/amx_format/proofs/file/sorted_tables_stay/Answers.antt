use Rattle.amx_format.proofs.SortLaws.{written_sorted}
use Rattle.amx_format.proofs.file.sorted_tables_stay.Goals as goal

pub returns-clause-written : goal.returns-clause-written
returns-clause-written c = written_sorted
