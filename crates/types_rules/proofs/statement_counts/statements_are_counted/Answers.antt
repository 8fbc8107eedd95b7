use Rattle.types_rules.proofs.StatementLaws as statements
use Rattle.types_rules.proofs.statement_counts.statements_are_counted.Goals as goal

pub returns : goal.returns
returns c = statements.stmt_counted
