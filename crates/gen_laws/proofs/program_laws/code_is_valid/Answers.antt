use Rattle.gen_laws.proofs.ValidLaws.{program_valid}
use Rattle.gen_laws.proofs.program_laws.code_is_valid.Goals as goal

pub returns : goal.returns
returns c = λ program valid few. program_valid program valid few
