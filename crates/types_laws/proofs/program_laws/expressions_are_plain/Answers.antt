use Rattle.types_laws.proofs.ExpressionValues as expressions
use Rattle.types_laws.proofs.program_laws.expressions_are_plain.Goals as goal

pub returns : goal.returns
returns c = expressions.expressions_plain
