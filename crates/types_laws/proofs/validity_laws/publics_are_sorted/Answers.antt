use Rattle.types_laws.proofs.PublicLaws as publics
use Rattle.types_laws.proofs.validity_laws.publics_are_sorted.Goals as goal

pub returns : goal.returns
returns c = publics.sorted_law
