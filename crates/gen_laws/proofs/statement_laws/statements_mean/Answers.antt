use Rattle.gen_laws.proofs.StmtNodes.{stmt_does}
use Rattle.gen_laws.proofs.statement_laws.statements_mean.Goals as goal

pub returns : goal.returns
returns c = λ here s in_list h ready fresh begin. stmt_does s here in_list h ready fresh begin
