use Rattle.types_laws.proofs.RouteLaws as routes
use Rattle.types_laws.proofs.source_laws.routes_are_valid.Goals as goal

pub returns : goal.returns
returns c = routes.all_routed
