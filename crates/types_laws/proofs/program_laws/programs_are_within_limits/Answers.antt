use Rattle.types_laws.proofs.LimitLaws as limits
use Rattle.types_laws.proofs.program_laws.programs_are_within_limits.Goals as goal

pub returns : goal.returns
returns c =
    limits.programs_within c.bodies_are_valid.ensures c.files_are_sites.ensures
    c.stands_within_sums.ensures
