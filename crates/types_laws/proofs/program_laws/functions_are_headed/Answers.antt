use Rattle.types_laws.proofs.FunctionLaws as functions
use Rattle.types_laws.proofs.program_laws.functions_are_headed.Goals as goal

pub returns : goal.returns
returns c = functions.functions_headed c.heads_are_same.ensures
