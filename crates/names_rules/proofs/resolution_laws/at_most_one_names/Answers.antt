use Rattle.names_rules.proofs.OneLaws as one
use Rattle.names_rules.proofs.resolution_laws.at_most_one_names.Goals as goal

pub returns-clause-one : goal.returns-clause-one
returns-clause-one c = one.one_names

pub returns-clause-whole : goal.returns-clause-whole
returns-clause-whole c = one.resolved_is_whole
