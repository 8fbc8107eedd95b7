use Rattle.names_rules.proofs.ResolvedLaws as resolved
use Rattle.names_rules.proofs.resolution_laws.resolved_means.Goals as goal

pub returns : goal.returns
returns c = resolved.is_resolved
