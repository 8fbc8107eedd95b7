use Rattle.types_laws.proofs.StatementLaws as statements
use Rattle.types_laws.proofs.program_laws.statements_are_valid.Goals as goal

pub returns : goal.returns
returns c = statements.statements_valid c.expressions_are_valid.ensures
