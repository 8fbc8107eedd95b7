use Rattle.parse_statements.proofs.precedence.+expression.Given as goal

abbrev pub decreases-expression : goal.decreases-expression
decreases-expression l = l.height
