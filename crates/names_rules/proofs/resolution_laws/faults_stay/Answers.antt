use Rattle.names_rules.proofs.ExtendLaws as extend
use Rattle.names_rules.proofs.resolution_laws.faults_stay.Goals as goal

pub returns-clause-nodes : goal.returns-clause-nodes
returns-clause-nodes c = extend.nodes_extend

pub returns-clause-stay : goal.returns-clause-stay
returns-clause-stay c = extend.faults_stay
