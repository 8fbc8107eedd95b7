use Rattle.types_laws.proofs.AroundLaws as known
use Rattle.types_laws.proofs.source_laws.arounds_are_known.Goals as goal

pub returns : goal.returns
returns c = known.arounds_known c.heads_are_same.ensures c.functions_are_headed.ensures
