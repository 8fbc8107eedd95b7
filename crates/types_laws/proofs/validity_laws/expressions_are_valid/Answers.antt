use Rattle.types_laws.proofs.ExpressionLaws as expressions
use Rattle.types_laws.proofs.validity_laws.expressions_are_valid.Goals as goal

pub returns : goal.returns
returns c = expressions.expressions_valid
