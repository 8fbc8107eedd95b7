use Rattle.run_laws.proofs.WholeLaws.{agreement_is_whole_lem}
use Rattle.run_laws.proofs.laws.agreement_is_whole.Goals as goal

pub returns : goal.returns
returns c = agreement_is_whole_lem
