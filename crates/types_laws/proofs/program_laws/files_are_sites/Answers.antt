use Rattle.types_laws.proofs.SiteLaws as sites
use Rattle.types_laws.proofs.program_laws.files_are_sites.Goals as goal

pub returns : goal.returns
returns c = sites.files_sites
