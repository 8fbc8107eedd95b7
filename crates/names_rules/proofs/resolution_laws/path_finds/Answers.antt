use Rattle.names_rules.proofs.PathLaws as path
use Rattle.names_rules.proofs.resolution_laws.path_finds.Goals as goal

pub returns-clause-means : goal.returns-clause-means
returns-clause-means c = path.path_finds

pub returns-clause-has : goal.returns-clause-has
returns-clause-has c = path.path_has
