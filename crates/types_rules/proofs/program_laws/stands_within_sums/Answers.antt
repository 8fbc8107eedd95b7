use Rattle.types_rules.proofs.ProgramLaws as whole
use Rattle.types_rules.proofs.program_laws.stands_within_sums.Goals as goal

pub returns : goal.returns
returns c = whole.within_sums_law
