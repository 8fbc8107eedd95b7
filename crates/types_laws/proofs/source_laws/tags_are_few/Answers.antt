use Rattle.types_laws.proofs.NameLaws as names
use Rattle.types_laws.proofs.source_laws.tags_are_few.Goals as goal

pub returns : goal.returns
returns c = names.tags_few
