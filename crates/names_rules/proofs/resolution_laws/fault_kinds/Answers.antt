use Rattle.names_rules.proofs.KindLaws as kinds
use Rattle.names_rules.proofs.resolution_laws.fault_kinds.Goals as goal

pub returns : goal.returns
returns c = kinds.fault_kinds
