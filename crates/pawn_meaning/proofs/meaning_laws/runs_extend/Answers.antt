use Rattle.pawn_meaning.proofs.RunLaws.{runs_extend_lem}
use Rattle.pawn_meaning.proofs.meaning_laws.runs_extend.Goals as goal

pub returns : goal.returns
returns c = runs_extend_lem
