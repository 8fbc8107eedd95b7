use Rattle.gen_laws.proofs.FitsLaws.{stmt_fits}
use Rattle.gen_laws.proofs.statement_laws.statements_fit.Goals as goal

pub returns : goal.returns
returns c = λ here s in_list h begin. stmt_fits here s in_list h begin
