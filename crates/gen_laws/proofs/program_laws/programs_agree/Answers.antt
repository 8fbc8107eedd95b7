use Rattle.gen_laws.proofs.ProgramLaws.{program_agrees}
use Rattle.gen_laws.proofs.program_laws.programs_agree.Goals as goal

pub returns : goal.returns
returns c =
    λ program amx valid limits few numbered has. program_agrees program amx valid limits few
    numbered has
