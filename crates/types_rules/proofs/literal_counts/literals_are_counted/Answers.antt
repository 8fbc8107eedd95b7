use Rattle.types_rules.proofs.LiteralLaws as literals
use Rattle.types_rules.proofs.literal_counts.literals_are_counted.Goals as goal

pub returns : goal.returns
returns c = literals.literals_counted
