use Rattle.gen_laws.proofs.AgreeLaws.{file_agrees}
use Rattle.gen_laws.proofs.program_laws.files_agree.Goals as goal

pub returns : goal.returns
returns c =
    λ program amx entry is script room keeps within f address here bound bounds. file_agrees program
    amx entry is script room keeps within f address here bound bounds
