use Rattle.gen_laws.proofs.FileOfLaws.{file_agrees_with}
use Rattle.gen_laws.proofs.program_laws.programs_have_files.Goals as goal

pub returns : goal.returns
returns c =
    λ program valid limits few numbered writable. file_agrees_with program valid limits few numbered
    writable
