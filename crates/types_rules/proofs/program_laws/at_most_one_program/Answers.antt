use Rattle.types_rules.proofs.ProgramLaws as whole
use Rattle.types_rules.proofs.program_laws.at_most_one_program.Goals as goal

pub returns-clause-one : goal.returns-clause-one
returns-clause-one c = whole.one_program

pub returns-clause-none : goal.returns-clause-none
returns-clause-none c = whole.no_fault
