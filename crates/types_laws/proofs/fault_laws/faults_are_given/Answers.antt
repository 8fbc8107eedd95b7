use Rattle.types_laws.proofs.ProgramFaults as whole
use Rattle.types_laws.proofs.fault_laws.faults_are_given.Goals as goal

pub returns-clause-whole : goal.returns-clause-whole
returns-clause-whole c = whole.faults_given

pub returns-clause-declarations : goal.returns-clause-declarations
returns-clause-declarations c = whole.have_faults
