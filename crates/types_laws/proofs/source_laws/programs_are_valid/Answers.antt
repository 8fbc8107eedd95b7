use Rattle.types_laws.proofs.ValidityLaws as validity
use Rattle.types_laws.proofs.source_laws.programs_are_valid.Goals as goal

pub returns : goal.returns
returns c =
    validity.programs_valid c.arounds_are_known.ensures c.typed_programs_are_within_limits.ensures
    c.bodies_are_valid.ensures c.files_are_sites.ensures c.functions_are_headed.ensures
    c.heads_are_same.ensures
    c.routes_are_valid.ensures
