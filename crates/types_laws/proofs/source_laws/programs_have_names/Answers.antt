use Rattle.types_laws.proofs.NameLaws as names
use Rattle.types_laws.proofs.source_laws.programs_have_names.Goals as goal

pub returns : goal.returns
returns c = names.programs_named c.publics_are_sorted.ensures
