use Rattle.parse_statements.proofs.inits.+init.Given as goal

abbrev pub decreases-init : goal.decreases-init
decreases-init l = l.height
