use Rattle.pawn_meaning.proofs.RunLaws.{runs_grow_lem}
use Rattle.pawn_meaning.proofs.meaning_laws.runs_grow.Goals as goal

pub returns : goal.returns
returns c = runs_grow_lem
