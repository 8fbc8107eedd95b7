use Rattle.pawn_front.proofs.SourceLaws as laws
use Rattle.pawn_front.proofs.one_program.a_source_has_one_program.Goals as goal

pub returns : goal.returns
returns c = laws.a_source_has_one_program
