use Rattle.names_rules.proofs.MeantLaws as meant
use Rattle.names_rules.proofs.resolution_laws.known_is_meant.Goals as goal

pub returns : goal.returns
returns c = meant.known_is_meant
