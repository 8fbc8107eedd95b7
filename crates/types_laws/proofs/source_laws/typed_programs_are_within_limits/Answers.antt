use Rattle.types_laws.proofs.AroundLaws as known
use Rattle.types_laws.proofs.source_laws.typed_programs_are_within_limits.Goals as goal

pub returns : goal.returns
returns c =
    known.typed_within c.arounds_are_known.ensures c.programs_are_within_limits.ensures
