use Rattle.types_laws.proofs.HeadsLaw as heads
use Rattle.types_laws.proofs.program_laws.heads_are_same.Goals as goal

pub returns : goal.returns
returns c = heads.heads_same
