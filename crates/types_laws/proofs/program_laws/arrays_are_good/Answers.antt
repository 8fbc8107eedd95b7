use Rattle.types_laws.proofs.ArrayValues as arrays
use Rattle.types_laws.proofs.program_laws.arrays_are_good.Goals as goal

pub returns : goal.returns
returns c = arrays.arrays_good
