use Rattle.pawn_front.proofs.SourceLaws as laws
use Rattle.pawn_front.proofs.one_program.what_means_is_not_refused.Goals as goal

pub returns : goal.returns
returns c = laws.what_means_is_not_refused
