use Rattle.gen_laws.proofs.AppendedLaws.{appended}
use Rattle.gen_laws.proofs.expression_laws.code_means.Goals as goal

pub returns : goal.returns
returns c = appended
